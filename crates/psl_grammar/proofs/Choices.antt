-- What the tests of the table say: a choice is told by the next token, and for `next` by the one behind it.
use Rattle.std.proofs.Common.{◌≡◌, refl, sym, subst, suc, ◌≤◌, ◌<◌, Bool, true, false, not, ◌&&◌, ◌||◌, ◌⊎◌, inl, inr, List, [], ◌∷◌, length, arith}
use Rattle.psl_lexer.specs.declared.kind.TokenKind.{TokenKind}
use Rattle.psl_lexer.specs.declared.kind.TokenKind.TheVariants as kinds
use Rattle.psl_grammar.specs.Derivation.{Derives, Derives as derived, Begins, Begins as begun}
use Rattle.psl_grammar.specs.Examples.{token}
use Rattle.psl_grammar.specs.Firsts.{has, at, is_empty, firsts, goes_left, before_bracket}
use Rattle.psl_grammar.specs.Parts.{Symbol, Part, ◌~◌, ◌//◌, Many, Maybe}
use Rattle.psl_grammar.specs.Productions.{production}
use Rattle.psl_grammar.specs.Trees.{Token, Item}
use Rattle.psl_grammar.proofs.Decided.{within, apart, shares, nexts, opens, is_token, bare, bracketed, bracketed_of, told, decides, ons, fits}
use Rattle.psl_grammar.proofs.Lengths.{Started, derived-starts, derived-some, begun-starts}
use Rattle.psl_grammar.proofs.NextToken.{clash, and-left, and-right, or-either, not-true, decided, at-within, at-apart, at-shares, if-true}

-- the pieces of a test

pub both-first : (a b : Part) → decides (a ~ b) ≡ true → decides a ≡ true
both-first a b h = and-left (decides a) _ h

pub both-second : (a b : Part) → decides (a ~ b) ≡ true → decides b ≡ true
both-second a b h = and-left (decides b) _ (and-right (decides a) _ h)

pub both-apart : (a b : Part) → decides (a ~ b) ≡ true → apart (ons a) (firsts b) ≡ true
both-apart a b h = and-right (decides b) _ (and-right (decides a) _ h)

pub choice-first : (a b : Part) → decides (a // b) ≡ true → decides a ≡ true
choice-first a b h = and-left (decides a) _ h

pub choice-second : (a b : Part) → decides (a // b) ≡ true → decides b ≡ true
choice-second a b h = and-left (decides b) _ (and-right (decides a) _ h)

pub choice-told : (a b : Part) → decides (a // b) ≡ true → told a b ≡ true
choice-told a b h = and-left (told a b) _ (and-right (decides b) _ (and-right (decides a) _ h))

pub choice-some : (a b : Part) → decides (a // b) ≡ true → is_empty a ≡ false
choice-some a b h = not-true _ (and-right (told a b) _ (and-right (decides b) _ (and-right (decides a) _ h)))

pub many-one : (a : Part) → decides (Many a) ≡ true → decides a ≡ true
many-one a h = and-left (decides a) _ h

pub many-some : (a : Part) → decides (Many a) ≡ true → is_empty a ≡ false
many-some a h = not-true _ (and-left (not (is_empty a)) _ (and-right (decides a) _ h))

pub many-apart : (a : Part) → decides (Many a) ≡ true → apart (ons a) (firsts a) ≡ true
many-apart a h = and-right (not (is_empty a)) _ (and-right (decides a) _ h)

pub maybe-one : (a : Part) → decides (Maybe a) ≡ true → decides a ≡ true
maybe-one a h = and-left (decides a) _ h

pub maybe-some : (a : Part) → decides (Maybe a) ≡ true → is_empty a ≡ false
maybe-some a h = not-true _ (and-right (decides a) _ h)

-- one token

take-token : {a : Part} {ts rest : List Token} {f : List Item} → is_token a ≡ true → Derives a ts f rest → (t : Token) × (ts ≡ t ∷ rest)
take-token h (derived.quoted {t = t} e) = (t, refl)
take-token h (derived.symbol x e) = clash h refl
take-token h (derived.both x y e) = clash h refl
take-token h (derived.left {a = a} x) = take-token (and-left (is_token a) _ h) x
take-token h (derived.right {a = a} x) = take-token (and-right (is_token a) _ h) x
take-token h derived.end = clash h refl
take-token h (derived.more x y e) = clash h refl
take-token h derived.without = clash h refl
take-token h (derived.with x) = clash h refl

begin-token : {a : Part} {ts rest : List Token} → is_token a ≡ true → Begins a ts rest → length ts ≤ suc (length rest)
begin-token h begun.nothing = omega arith
begin-token h (begun.quoted e) = omega arith
begin-token h (begun.symbol x) = clash h refl
begin-token h (begun.first x) = clash h refl
begin-token h (begun.next f x y) = clash h refl
begin-token h (begun.left {a = a} x) = begin-token (and-left (is_token a) _ h) x
begin-token h (begun.right {a = a} x) = begin-token (and-right (is_token a) _ h) x
begin-token h (begun.now x) = clash h refl
begin-token h (begun.later f x y) = clash h refl
begin-token h (begun.maybe x) = clash h refl

-- a token, and then what can begin with `[`, or cannot

has-not : (j k : TokenKind) (ks : List TokenKind) → has j ks ≡ true → has k ks ≡ false → has j (k ∷ []) ≡ false
has-not j k ks p q = go (decided (has j (k ∷ [])))
  where
    same : has j (k ∷ []) ≡ true → has j (k ∷ []) ≡ false
    same h = at-apart (token j 0 ∷ []) (k ∷ []) ks w h p
      where
        w : apart (k ∷ []) ks ≡ true
        w = rw q refl

    go : (has j (k ∷ []) ≡ true) ⊎ (has j (k ∷ []) ≡ false) → has j (k ∷ []) ≡ false
    go (inl h) = same h
    go (inr h) = h

at-not : (ts : List Token) (k : TokenKind) (ks : List TokenKind) → at ts ks ≡ true → has k ks ≡ false → at ts (k ∷ []) ≡ false
at-not [] k ks p q = refl
at-not (t ∷ ts) k ks p q = has-not t.kind k ks p q

bare-derived : {a : Part} {ts rest : List Token} {f : List Item} → bare a ≡ true → Derives a ts f rest → before_bracket ts ≡ false
bare-derived h (derived.quoted e) = clash h refl
bare-derived h (derived.symbol x e) = clash h refl
bare-derived h (derived.both {a = a} {b = b} {ts = ts} {mid = mid} x y e) = go (take-token (and-left (is_token a) _ h) x)
  where
    rest : not (is_empty b) && not (has kinds.BracketOpen (firsts b)) ≡ true
    rest = and-right (is_token a) _ h

    closed : at mid (kinds.BracketOpen ∷ []) ≡ false
    closed = at-not mid kinds.BracketOpen (firsts b) (derived-some (not-true _ (and-left (not (is_empty b)) _ rest)) y).0 (not-true _ (and-right (not (is_empty b)) _ rest))

    go : (t : Token) × (ts ≡ t ∷ mid) → before_bracket ts ≡ false
    go p = subst (λ x. before_bracket x ≡ false) (sym p.1) closed
bare-derived h (derived.left x) = clash h refl
bare-derived h (derived.right x) = clash h refl
bare-derived h derived.end = clash h refl
bare-derived h (derived.more x y e) = clash h refl
bare-derived h derived.without = clash h refl
bare-derived h (derived.with x) = clash h refl

-- a token and nothing more, or what comes next begins the second part
second-begun : {b : Part} {ts mid rest : List Token} → (t : Token) × (ts ≡ t ∷ mid) → (at mid (firsts b) ≡ true → before_bracket ts ≡ true → ⊥) → before_bracket ts ≡ true → Begins b mid rest → length ts ≤ suc (length rest)
second-begun {b = b} {ts = ts} {mid = mid} {rest = rest} p never h y = go (begun-starts y)
  where
    go : (mid ≡ rest) ⊎ Started b mid rest → length ts ≤ suc (length rest)
    go (inl e) = subst (λ x. length x ≤ suc (length rest)) (sym p.1) (subst (λ x. suc (length x) ≤ suc (length rest)) (sym e) (omega arith))
    go (inr g) = absurd (never g.0 h)

bare-begun : {a : Part} {ts rest : List Token} → bare a ≡ true → before_bracket ts ≡ true → Begins a ts rest → length ts ≤ suc (length rest)
bare-begun h g begun.nothing = omega arith
bare-begun h g (begun.quoted e) = clash h refl
bare-begun h g (begun.symbol x) = clash h refl
bare-begun h g (begun.first {a = a} x) = begin-token (and-left (is_token a) _ h) x
bare-begun h g (begun.next {a = a} {b = b} {ts = ts} {mid = mid} f x y) = second-begun one never g y
  where
    rest : not (is_empty b) && not (has kinds.BracketOpen (firsts b)) ≡ true
    rest = and-right (is_token a) _ h

    one : (t : Token) × (ts ≡ t ∷ mid)
    one = take-token (and-left (is_token a) _ h) x

    never : at mid (firsts b) ≡ true → before_bracket ts ≡ true → ⊥
    never p q = clash (subst (λ x. before_bracket x ≡ true) one.1 q) (at-not mid kinds.BracketOpen (firsts b) p (not-true _ (and-right (not (is_empty b)) _ rest)))
bare-begun h g (begun.left x) = clash h refl
bare-begun h g (begun.right x) = clash h refl
bare-begun h g (begun.now x) = clash h refl
bare-begun h g (begun.later f x y) = clash h refl
bare-begun h g (begun.maybe x) = clash h refl

-- `next` with `[` behind it

brackets-symbol : (s : Symbol) → bracketed_of s ≡ true → bracketed (production s) ≡ true
brackets-symbol s h = if-true (bracketed_of s) _ (fits s).brackets h

nobody : {A : Type 0} (ts : List Token) → length ts < length ts → A
nobody ts h = absurd (none h)
  where
    none : length ts < length ts → ⊥
    none g = omega arith

-- both parts tell it, or the first is a token and the second begins with `[`
bracketed-either : (a b : Part) → bracketed (a ~ b) ≡ true →
    (bracketed a && (not (is_empty a) || bracketed b) ≡ true) ⊎ (is_token a && (not (is_empty b) && within (firsts b) opens) ≡ true)
bracketed-either a b h = or-either _ _ h

-- the second part, where the first is empty
second-bracketed : (a b : Part) → bracketed a && (not (is_empty a) || bracketed b) ≡ true → is_empty a ≡ true → bracketed b ≡ true
second-bracketed a b h e = go (or-either _ _ (and-right (bracketed a) _ h))
  where
    go : (not (is_empty a) ≡ true) ⊎ (bracketed b ≡ true) → bracketed b ≡ true
    go (inl n) = clash e (not-true _ n)
    go (inr p) = p

token-bracketed : (a b : Part) (ts mid : List Token) {f : List Item} → is_token a && (not (is_empty b) && within (firsts b) opens) ≡ true → Derives a ts f mid → at mid (firsts b) ≡ true → before_bracket ts ≡ true
token-bracketed a b ts mid h x p = go (take-token (and-left (is_token a) _ h) x)
  where
    opened : at mid opens ≡ true
    opened = at-within mid (firsts b) opens (and-right (not (is_empty b)) _ (and-right (is_token a) _ h)) p

    go : (t : Token) × (ts ≡ t ∷ mid) → before_bracket ts ≡ true
    go q = subst (λ y. before_bracket y ≡ true) (sym q.1) opened

pub bracketed-derived : {a : Part} {ts rest : List Token} {f : List Item} → bracketed a ≡ true → at ts nexts ≡ true → length rest < length ts → Derives a ts f rest → before_bracket ts ≡ true
bracketed-derived h n l (derived.quoted {k = k} e) = clash (subst (λ j. has j nexts ≡ true) e n) (not-true _ h)
bracketed-derived h n l (derived.symbol {s = s} x e) = bracketed-derived (brackets-symbol s h) n l x
bracketed-derived h n l (derived.both {a = a} {b = b} {ts = ts} {mid = mid} {rest = rest} x y e) =
    elim (bracketed-either a b h) [
      | inl p ↦ elim (derived-starts x) [
        | inl q ↦ subst (λ z. before_bracket z ≡ true) (sym q.0) (bracketed-derived (second-bracketed a b p q.1) (subst (λ z. at z nexts ≡ true) q.0 n) (subst (λ z. length rest < length z) q.0 l) y)
        | inr q ↦ bracketed-derived (and-left (bracketed a) _ p) n q.1 x
      ]
      | inr p ↦ token-bracketed a b ts mid p x (derived-some (not-true _ (and-left (not (is_empty b)) _ (and-right (is_token a) _ p))) y).0
    ]
bracketed-derived h n l (derived.left {a = a} x) = bracketed-derived (and-left (bracketed a) _ h) n l x
bracketed-derived h n l (derived.right {a = a} x) = bracketed-derived (and-right (bracketed a) _ h) n l x
bracketed-derived h n l (derived.end {ts = ts}) = nobody ts l
bracketed-derived h n l (derived.more {ts = ts} {mid = mid} {rest = rest} x y e) =
    elim (derived-starts x) [
      | inl q ↦ subst (λ z. before_bracket z ≡ true) (sym q.0) (bracketed-derived h (subst (λ z. at z nexts ≡ true) q.0 n) (subst (λ z. length rest < length z) q.0 l) y)
      | inr q ↦ bracketed-derived h n q.1 x
    ]
bracketed-derived h n l (derived.without {ts = ts}) = nobody ts l
bracketed-derived h n l (derived.with x) = bracketed-derived h n l x

pub bracketed-begun : {a : Part} {ts rest : List Token} → bracketed a ≡ true → at ts nexts ≡ true → before_bracket ts ≡ false → Begins a ts rest → length ts ≤ suc (length rest)
bracketed-begun h n o begun.nothing = omega arith
bracketed-begun h n o (begun.quoted e) = omega arith
bracketed-begun h n o (begun.symbol {s = s} x) = bracketed-begun (brackets-symbol s h) n o x
bracketed-begun h n o (begun.first {a = a} {b = b} x) =
    elim (bracketed-either a b h) [ inl p ↦ bracketed-begun (and-left (bracketed a) _ p) n o x | inr p ↦ begin-token (and-left (is_token a) _ p) x ]
bracketed-begun h n o (begun.next {a = a} {b = b} {ts = ts} {mid = mid} {rest = rest} f x y) =
    elim (bracketed-either a b h) [
      | inl p ↦ elim (derived-starts x) [
        | inl q ↦ subst (λ z. length z ≤ suc (length rest)) (sym q.0) (bracketed-begun (second-bracketed a b p q.1) (subst (λ z. at z nexts ≡ true) q.0 n) (subst (λ z. before_bracket z ≡ false) q.0 o) y)
        | inr q ↦ clash (bracketed-derived (and-left (bracketed a) _ p) n q.1 x) o
      ]
      | inr p ↦ elim (begun-starts y) [
        | inl q ↦ subst (λ z. length z ≤ suc (length rest)) (sym (take-token (and-left (is_token a) _ p) x).1) (subst (λ z. suc (length z) ≤ suc (length rest)) (sym q) (omega arith))
        | inr q ↦ clash (token-bracketed a b ts mid p x q.0) o
      ]
    ]
bracketed-begun h n o (begun.left {a = a} x) = bracketed-begun (and-left (bracketed a) _ h) n o x
bracketed-begun h n o (begun.right {a = a} x) = bracketed-begun (and-right (bracketed a) _ h) n o x
bracketed-begun h n o (begun.now x) = bracketed-begun h n o x
bracketed-begun h n o (begun.later {ts = ts} {rest = rest} f x y) =
    elim (derived-starts x) [
      | inl q ↦ subst (λ z. length z ≤ suc (length rest)) (sym q.0) (bracketed-begun h (subst (λ z. at z nexts ≡ true) q.0 n) (subst (λ z. before_bracket z ≡ false) q.0 o) y)
      | inr q ↦ clash (bracketed-derived h n q.1 x) o
    ]
bracketed-begun h n o (begun.maybe x) = bracketed-begun h n o x

-- both sides can begin with the next token

pub record Shared (a b : Part) (ts : List Token) : Type 0 where
  pub bare_left : bare a ≡ true
  pub bracketed_right : bracketed b ≡ true
  pub a_next : at ts nexts ≡ true

shared : (a b : Part) (ts : List Token) → told a b ≡ true → at ts (firsts a) ≡ true → at ts (firsts b) ≡ true → Shared a b ts
shared a b ts h p q = go (or-either _ _ h)
  where
    go : (apart (firsts a) (firsts b) ≡ true) ⊎ (bare a && (bracketed b && shares (firsts a) (firsts b) nexts) ≡ true) → Shared a b ts
    go (inl w) = at-apart ts (firsts a) (firsts b) w p q
    go (inr w) =
        record {
          bare_left = and-left (bare a) _ w;
          bracketed_right = and-left (bracketed b) _ (and-right (bare a) _ w);
          a_next = at-shares ts (firsts a) (firsts b) nexts (and-right (bracketed b) _ (and-right (bare a) _ w)) p q;
        }

pub left-starts : (a b : Part) (ts : List Token) → goes_left a b ts ≡ true → at ts (firsts a) ≡ true
left-starts a b ts h = and-left (at ts (firsts a)) _ h

-- the left side is taken, and the right one can begin so too: no `[` stands behind
left-open : (a b : Part) (ts : List Token) → goes_left a b ts ≡ true → at ts (firsts b) ≡ true → before_bracket ts ≡ false
left-open a b ts h p = under (at ts (firsts b)) (before_bracket ts) p (not-true _ (and-right (at ts (firsts a)) _ h))
  where
    under : (x y : Bool) → x ≡ true → x && y ≡ false → y ≡ false
    under true y e f = f
    under false y e f = clash e refl

right-not : (x y z : Bool) → x && not (y && z) ≡ false → x ≡ true → (y ≡ true) × (z ≡ true)
right-not true true true h p = (refl, refl)
right-not true true false h p = clash refl h
right-not true false z h p = clash refl h
right-not false y z h p = clash p refl

-- the right side is taken though the left one can begin so: the right one can too, and `[` stands behind
right-bracketed : (a b : Part) (ts : List Token) → goes_left a b ts ≡ false → at ts (firsts a) ≡ true → (at ts (firsts b) ≡ true) × (before_bracket ts ≡ true)
right-bracketed a b ts h p = right-not (at ts (firsts a)) (at ts (firsts b)) (before_bracket ts) h p

-- no list of the other side stands there

pub left-not_right : {A : Type 0} (a b : Part) (ts rest : List Token) {f : List Item} → told a b ≡ true → goes_left a b ts ≡ true → Derives b ts f rest → Started b ts rest → A
left-not_right a b ts rest t h x g = clash (bracketed-derived both.bracketed_right both.a_next g.1 x) (left-open a b ts h g.0)
  where
    both : Shared a b ts
    both = shared a b ts t (left-starts a b ts h) g.0

pub right-not_left : {A : Type 0} (a b : Part) (ts rest : List Token) {f : List Item} → told a b ≡ true → goes_left a b ts ≡ false → Derives a ts f rest → Started a ts rest → A
right-not_left a b ts rest t h x g = clash second.1 (bare-derived (shared a b ts t g.0 second.0).bare_left x)
  where
    second : (at ts (firsts b) ≡ true) × (before_bracket ts ≡ true)
    second = right-bracketed a b ts h g.0

-- at most one token begins the other side

pub left-short : (a b : Part) (ts rest : List Token) → told a b ≡ true → goes_left a b ts ≡ true → Begins b ts rest → Started b ts rest → length ts ≤ suc (length rest)
left-short a b ts rest t h x g = bracketed-begun both.bracketed_right both.a_next (left-open a b ts h g.0) x
  where
    both : Shared a b ts
    both = shared a b ts t (left-starts a b ts h) g.0

pub right-short : (a b : Part) (ts rest : List Token) → told a b ≡ true → goes_left a b ts ≡ false → Begins a ts rest → Started a ts rest → (at ts (firsts b) ≡ true) × (length ts ≤ suc (length rest))
right-short a b ts rest t h x g = (second.0, bare-begun (shared a b ts t g.0 second.0).bare_left second.1 x)
  where
    second : (at ts (firsts b) ≡ true) × (before_bracket ts ≡ true)
    second = right-bracketed a b ts h g.0

-- two derivations do not take both sides
pub one-side : {A : Type 0} (a b : Part) (ts r q : List Token) {f g : List Item} → told a b ≡ true → Derives a ts f r → Started a ts r → Derives b ts g q → Started b ts q → A
one-side a b ts r q t x g y h = clash (bracketed-derived both.bracketed_right both.a_next h.1 y) (bare-derived both.bare_left x)
  where
    both : Shared a b ts
    both = shared a b ts t g.0 h.0
