-- A reader always comes to an end: it reads its part, or it stops.
use Rattle.std.proofs.Common.{◌≡◌, ◌≢◌, refl, sym, subst, ℕ, zero, suc, ◌≤◌, ◌<◌, Bool, true, false, not, ◌&&◌, ◌||◌, ◌⊎◌, inl, inr, List, [], ◌∷◌, ◌++◌, length, nat_lt, ltb-true, lt-ltb, arith}
use Rattle.psl_lexer.specs.declared.kind.TokenKind.{TokenKind}
use Rattle.psl_grammar.specs.Firsts.{at, is_empty, firsts, goes_left}
use Rattle.psl_grammar.specs.Parts.{Symbol, Text, Vunit, Statement, Directive, Declaration, Prop, Imp, ImpRight, Suf, Bnd, Occ, Trm, Clk, Or, And, Cmp, Una, Pri, Atom, Path, Counted, Sere, Fus, Alt, Conj, Wtail, Ctail, Side, Start, Bor, Band, Bcmp, Buna, Post, Clk0, Count, Part, Quoted, Sym, ◌~◌, ◌//◌, Many, Maybe}
use Rattle.psl_grammar.specs.Productions.{production}
use Rattle.psl_grammar.specs.Reading.{State, Reads, Reads as reads, Stops, Stops as stops, Syntax}
use Rattle.psl_grammar.specs.Trees.{Token, Item, Tok, Tree, built}
use Rattle.psl_grammar.proofs.NextToken.{clash, and-true, and-left, and-right, or-either, not-true, decided, kind-of_one}
use Rattle.psl_grammar.proofs.Past.{takes-one}
use Rattle.psl_grammar.proofs.Readers.{read-starts, read-limit, read-shrinks}

-- how many productions can open one in another before a token is taken
abbrev pub level : Symbol → ℕ
level Text = 2
level Vunit = 0
level Statement = 1
level Directive = 0
level Declaration = 0
level Prop = 13
level Imp = 12
level ImpRight = 13
level Suf = 11
level Bnd = 10
level Occ = 9
level Trm = 8
level Clk = 7
level Or = 6
level And = 5
level Cmp = 4
level Una = 3
level Pri = 2
level Atom = 1
level Path = 0
level Counted = 0
level Sere = 9
level Fus = 8
level Alt = 7
level Conj = 6
level Wtail = 0
level Ctail = 0
level Side = 6
level Start = 0
level Bor = 5
level Band = 4
level Bcmp = 3
level Buna = 2
level Post = 0
level Clk0 = 1
level Count = 0

-- the symbols that can stand first in the part are of a lower level
abbrev pub below_level : ℕ → Part → Bool
below_level l (Quoted k) = true
below_level l (Sym s) = nat_lt (level s) l
below_level l (a ~ b) = below_level l a && (not (is_empty a) || below_level l b)
below_level l (a // b) = below_level l a && below_level l b
below_level l (Many a) = below_level l a
below_level l (Maybe a) = below_level l a

-- a production opens symbols of lower levels
falls : (s : Symbol) → below_level (level s) (production s) ≡ true
falls Text = refl
falls Vunit = refl
falls Statement = refl
falls Directive = refl
falls Declaration = refl
falls Prop = refl
falls Imp = refl
falls ImpRight = refl
falls Suf = refl
falls Bnd = refl
falls Occ = refl
falls Trm = refl
falls Clk = refl
falls Or = refl
falls And = refl
falls Cmp = refl
falls Una = refl
falls Pri = refl
falls Atom = refl
falls Path = refl
falls Counted = refl
falls Sere = refl
falls Fus = refl
falls Alt = refl
falls Conj = refl
falls Wtail = refl
falls Ctail = refl
falls Side = refl
falls Start = refl
falls Bor = refl
falls Band = refl
falls Bcmp = refl
falls Buna = refl
falls Post = refl
falls Clk0 = refl
falls Count = refl

all-below : (s : Symbol) → nat_lt (level s) 64 ≡ true
all-below Text = refl
all-below Vunit = refl
all-below Statement = refl
all-below Directive = refl
all-below Declaration = refl
all-below Prop = refl
all-below Imp = refl
all-below ImpRight = refl
all-below Suf = refl
all-below Bnd = refl
all-below Occ = refl
all-below Trm = refl
all-below Clk = refl
all-below Or = refl
all-below And = refl
all-below Cmp = refl
all-below Una = refl
all-below Pri = refl
all-below Atom = refl
all-below Path = refl
all-below Counted = refl
all-below Sere = refl
all-below Fus = refl
all-below Alt = refl
all-below Conj = refl
all-below Wtail = refl
all-below Ctail = refl
all-below Side = refl
all-below Start = refl
all-below Bor = refl
all-below Band = refl
all-below Bcmp = refl
all-below Buna = refl
all-below Post = refl
all-below Clk0 = refl
all-below Count = refl

second-below : (x y : Bool) → y ≡ true → not x || y ≡ true
second-below true y h = h
second-below false y h = refl

part-below : (a : Part) → below_level 64 a ≡ true
part-below (Quoted k) = refl
part-below (Sym s) = all-below s
part-below (a ~ b) = and-true _ _ (part-below a) (second-below (is_empty a) _ (part-below b))
part-below (a // b) = and-true _ _ (part-below a) (part-below b)
part-below (Many a) = part-below a
part-below (Maybe a) = part-below a

-- the reader reads the part, or stops in it
abbrev pub Outcome : Part → State → Type 0
Outcome a from = ((f : List Item) × (to : State) × Reads a from f to) ⊎ ((stop : State) × Stops Syntax a from stop)

-- no token that is left passes a limit
abbrev pub IsWithin : State → Type 0
IsWithin from = length from.tokens ≤ from.limit

within-after : {a : Part} {from to : State} {f : List Item} → IsWithin from → Reads a from f to → IsWithin to
within-after {from = from} {to = to} h x = subst (λ n. length to.tokens ≤ n) (sym (read-limit x)) (down (read-shrinks x) h)
  where
    down : {k m n : ℕ} → k ≤ m → m ≤ n → k ≤ n
    down p q = omega arith

read-token : (k : TokenKind) (from : State) → IsWithin from → Outcome (Quoted k) from
read-token k from h = go from.tokens refl (decided (at from.tokens (k ∷ [])))
  where
    more : (t : Token) (ts : List Token) → length (t ∷ ts) ≤ from.limit → length ts ≢ from.limit
    more t ts i = λ e. far (subst (λ n. suc (length ts) ≤ n) (sym e) i)
      where
        far : suc (length ts) ≤ length ts → ⊥
        far j = omega arith

    go : (ts : List Token) → from.tokens ≡ ts → (at from.tokens (k ∷ []) ≡ true) ⊎ (at from.tokens (k ∷ []) ≡ false) → Outcome (Quoted k) from
    go ts e (inr p) = inr (from, stops.quoted p refl)
    go [] e (inl p) = clash (subst (λ z. at z (k ∷ []) ≡ true) e p) refl
    go (t ∷ ts) e (inl p) =
        inl (
          Tok t ∷ [],
          record { tokens = ts; limit = from.limit },
          reads.quoted (record { front = e; kind = kind-of_one t.kind k (subst (λ z. at z (k ∷ []) ≡ true) e p); below = more t ts (subst (λ z. length z ≤ from.limit) e h); limit = refl }),
        )

-- one part, where symbols of lower levels are read, and all parts where a token was taken
module _ (l : ℕ) (size : ℕ) (lower : (s : Symbol) (from : State) → nat_lt (level s) l ≡ true → IsWithin from → length from.tokens ≤ size → Outcome (Sym s) from) (later : (a : Part) (from : State) → IsWithin from → length from.tokens < size → Outcome a from) where
  less : {k m n : ℕ} → k < m → m ≤ n → k < n
  less p q = omega arith

  read-next : (a b : Part) (from mid : State) (f : List Item) → Reads a from f mid → Outcome b mid → Outcome (a ~ b) from
  read-next a b from mid f x (inl p) = inl (f ++ p.0, p.1, reads.both x p.2 refl)
  read-next a b from mid f x (inr p) = inr (p.0, stops.next f x p.1)

  read-again : (a : Part) (from mid : State) (f : List Item) → at from.tokens (firsts a) ≡ true → Reads a from f mid → Outcome (Many a) mid → Outcome (Many a) from
  read-again a from mid f h x (inl p) = inl (f ++ p.0, p.1, reads.more (record { holds = h }) x p.2 refl)
  read-again a from mid f h x (inr p) = inr (p.0, stops.later f (record { holds = h }) x p.1)

  read-part : (a : Part) (from : State) → below_level l a ≡ true → IsWithin from → length from.tokens ≤ size → Outcome a from
  read-part (Quoted k) from b w h = read-token k from w
  read-part (Sym s) from b w h = lower s from b w h
  read-part (a ~ b) from c w h =
      elim (read-part a from (and-left (below_level l a) _ c) w h) [
        | inl p ↦ read-next a b from p.1 p.0 p.2 (elim (read-starts p.2) [
          | inl g ↦ read-part b p.1 (second c g.1) (within-after w p.2) (subst (λ z. length z ≤ size) g.0 h)
          | inr g ↦ later b p.1 (within-after w p.2) (less g.1 h)
        ])
        | inr p ↦ inr (p.0, stops.first p.1)
      ]
    where
      second : below_level l a && (not (is_empty a) || below_level l b) ≡ true → is_empty a ≡ true → below_level l b ≡ true
      second c e = go (or-either _ _ (and-right (below_level l a) _ c))
        where
          go : (not (is_empty a) ≡ true) ⊎ (below_level l b ≡ true) → below_level l b ≡ true
          go (inl n) = clash e (not-true _ n)
          go (inr p) = p
  read-part (a // b) from c w h =
      elim (decided (goes_left a b from.tokens)) [
        | inl g ↦ elim (read-part a from (and-left (below_level l a) _ c) w h) [
          | inl p ↦ inl (p.0, p.1, reads.left (record { holds = g }) p.2)
          | inr p ↦ inr (p.0, stops.left (record { holds = g }) p.1)
        ]
        | inr g ↦ elim (read-part b from (and-right (below_level l a) _ c) w h) [
          | inl p ↦ inl (p.0, p.1, reads.right (record { holds = g }) p.2)
          | inr p ↦ inr (p.0, stops.right (record { holds = g }) p.1)
        ]
      ]
  read-part (Many a) from c w h =
      elim (decided (at from.tokens (firsts a))) [
        | inl g ↦ elim (read-part a from c w h) [
          | inl p ↦ read-again a from p.1 p.0 g p.2 (later (Many a) p.1 (within-after w p.2) (less (takes-one p.2 g) h))
          | inr p ↦ inr (p.0, stops.now (record { holds = g }) p.1)
        ]
        | inr g ↦ inl ([], from, reads.end (record { holds = g }))
      ]
  read-part (Maybe a) from c w h =
      elim (decided (at from.tokens (firsts a))) [
        | inl g ↦ elim (read-part a from c w h) [
          | inl p ↦ inl (p.0, p.1, reads.with (record { holds = g }) p.2)
          | inr p ↦ inr (p.0, stops.maybe (record { holds = g }) p.1)
        ]
        | inr g ↦ inl ([], from, reads.without (record { holds = g }))
      ]

wrap : (s : Symbol) (from : State) → Outcome (production s) from → Outcome (Sym s) from
wrap s from (inl p) = inl (Tree (built s p.0) ∷ [], p.1, reads.symbol p.2 refl)
wrap s from (inr p) = inr (p.0, stops.symbol p.1)

-- symbols, by their levels
read-symbol : (l size : ℕ) (later : (a : Part) (from : State) → IsWithin from → length from.tokens < size → Outcome a from) (s : Symbol) (from : State) → nat_lt (level s) l ≡ true → IsWithin from → length from.tokens ≤ size → Outcome (Sym s) from
read-symbol zero size later s from b w h = absurd (none (ltb-true (level s) 0 b))
  where
    none : level s < 0 → ⊥
    none i = omega arith
read-symbol (suc l) size later s from b w h =
    wrap s from (read-part (level s) size (λ u mid c. read-symbol l size later u mid (lt-ltb (level u) l (lower (level u) (level s) (ltb-true (level u) (level s) c) (ltb-true (level s) (suc l) b)))) later (production s) from (falls s) w h)
  where
    lower : (i j : ℕ) → i < j → j < suc l → i < l
    lower i j p q = omega arith

-- all parts, by the number of tokens
read-all : (n : ℕ) (a : Part) (from : State) → IsWithin from → length from.tokens < n → Outcome a from
read-all zero a from w h = absurd (none h)
  where
    none : length from.tokens < 0 → ⊥
    none i = omega arith
read-all (suc n) a from w h = read-part 64 n (read-symbol 64 n (read-all n)) (read-all n) a from (part-below a) w (most h)
  where
    most : length from.tokens < suc n → length from.tokens ≤ n
    most i = omega arith

pub reads-or-stops : (a : Part) (from : State) → IsWithin from → Outcome a from
reads-or-stops a from w = read-all (suc (length from.tokens)) a from w (omega arith)
