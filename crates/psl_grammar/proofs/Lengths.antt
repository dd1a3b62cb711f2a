-- What is read, derived or begun takes nothing, or a token that can be the first.
use Rattle.std.proofs.Common.{◌≡◌, refl, sym, ◌∙◌, subst, ◌≤◌, ◌<◌, true, false, ◌⊎◌, inl, inr, List, ◌∷◌, length, arith}
use Rattle.psl_grammar.specs.Derivation.{Derives, Derives as derived, Begins, Begins as begun}
use Rattle.psl_grammar.specs.Firsts.{at, is_empty, firsts}
use Rattle.psl_grammar.specs.Parts.{Symbol, Part, Sym, ◌~◌, ◌//◌, Many, Maybe}
use Rattle.psl_grammar.specs.Productions.{production}
use Rattle.psl_grammar.specs.Trees.{Token, Item}
use Rattle.psl_grammar.proofs.Decided.{fits}
use Rattle.psl_grammar.proofs.NextToken.{clash, and-true, or-left, or-right, has-one, at-left, at-right, at-within, at-if}

-- it takes nothing, or begins with a first token of the part and takes it
abbrev pub Started : Part → List Token → List Token → Type 0
Started a ts rest = (at ts (firsts a) ≡ true) × (length rest < length ts)

-- the same, and nothing is a list of the part
abbrev pub Taken : Part → List Token → List Token → Type 0
Taken a ts rest = ((ts ≡ rest) × (is_empty a ≡ true)) ⊎ Started a ts rest

pub Taken-shrinks : (a : Part) (ts rest : List Token) → Taken a ts rest → length rest ≤ length ts
Taken-shrinks a ts rest (inl h) = subst (λ x. length rest ≤ length x) (sym h.0) (omega arith)
Taken-shrinks a ts rest (inr h) = let less : length rest < length ts = h.1 in omega arith

-- two parts one behind the other

begin-both : (a b : Part) (ts mid rest : List Token) → Taken a ts mid → (mid ≡ rest) ⊎ Started b mid rest → (ts ≡ rest) ⊎ Started (a ~ b) ts rest
begin-both a b ts mid rest (inl h) (inl e) = inl (h.0 ∙ e)
begin-both a b ts mid rest (inl h) (inr g) =
    inr (subst (λ x. Started (a ~ b) x rest) (sym h.0) (at-right mid (firsts a) _ (at-if mid _ _ h.1 g.0), g.1))
begin-both a b ts mid rest (inr h) (inl e) =
    inr (at-left ts (firsts a) _ h.0, subst (λ x. length x < length ts) e h.1)
begin-both a b ts mid rest (inr h) (inr g) =
    let less : length mid < length ts = h.1 in
    let lesser : length rest < length mid = g.1 in
    inr (at-left ts (firsts a) _ h.0, omega arith)

take-both : (a b : Part) (ts mid rest : List Token) → Taken a ts mid → Taken b mid rest → Taken (a ~ b) ts rest
take-both a b ts mid rest (inl h) (inl g) = inl (h.0 ∙ g.0, and-true _ _ h.1 g.1)
take-both a b ts mid rest h (inr g) = weaker (begin-both a b ts mid rest h (inr g))
  where
    shorter : length rest < length ts
    shorter = let less : length rest < length mid = g.1 in let least : length mid ≤ length ts = Taken-shrinks a ts mid h in omega arith

    weaker : (ts ≡ rest) ⊎ Started (a ~ b) ts rest → Taken (a ~ b) ts rest
    weaker (inl e) = absurd (none (subst (λ x. length rest < length x) e shorter))
      where
        none : length rest < length rest → ⊥
        none h = omega arith
    weaker (inr k) = inr k
take-both a b ts mid rest (inr h) (inl g) = inr (at-left ts (firsts a) _ h.0, subst (λ x. length x < length ts) g.0 h.1)

-- a part and then more of it
take-more : (a : Part) (ts mid rest : List Token) → Taken a ts mid → Taken (Many a) mid rest → Taken (Many a) ts rest
take-more a ts mid rest (inl h) g = subst (λ x. Taken (Many a) x rest) (sym h.0) g
take-more a ts mid rest (inr h) g = inr (h.0, less (Taken-shrinks (Many a) mid rest g))
  where
    less : length rest ≤ length mid → length rest < length ts
    less e = let l : length mid < length ts = h.1 in omega arith

take-symbol : (s : Symbol) (ts rest : List Token) → Taken (production s) ts rest → Taken (Sym s) ts rest
take-symbol s ts rest (inl h) = inl (h.0, sym (fits s).empty ∙ h.1)
take-symbol s ts rest (inr h) = inr (at-within ts _ _ (fits s).begins h.0, h.1)

take-left : (a b : Part) (ts rest : List Token) → Taken a ts rest → Taken (a // b) ts rest
take-left a b ts rest (inl h) = inl (h.0, or-left _ _ h.1)
take-left a b ts rest (inr h) = inr (at-left ts _ _ h.0, h.1)

take-right : (a b : Part) (ts rest : List Token) → Taken b ts rest → Taken (a // b) ts rest
take-right a b ts rest (inl h) = inl (h.0, or-right (is_empty a) _ h.1)
take-right a b ts rest (inr h) = inr (at-right ts (firsts a) _ h.0, h.1)

take-some : (a b : Part) (ts rest : List Token) → is_empty b ≡ true → firsts a ≡ firsts b → Taken a ts rest → Taken b ts rest
take-some a b ts rest e f (inl h) = inl (h.0, e)
take-some a b ts rest e f (inr h) = inr (subst (λ ks. at ts ks ≡ true) f h.0, h.1)

one-less : (t : Token) (ts : List Token) → length ts < length (t ∷ ts)
one-less t ts = omega arith

pub derived-starts : {a : Part} {ts rest : List Token} {f : List Item} → Derives a ts f rest → Taken a ts rest
derived-starts (derived.quoted {k = k} {t = t} {ts = ts} e) = inr (has-one t.kind k e, one-less t ts)
derived-starts (derived.symbol {s = s} {ts = ts} {rest = rest} x e) = take-symbol s ts rest (derived-starts x)
derived-starts (derived.both {a = a} {b = b} {ts = ts} {mid = mid} {rest = rest} x y e) = take-both a b ts mid rest (derived-starts x) (derived-starts y)
derived-starts (derived.left {a = a} {b = b} {ts = ts} {rest = rest} x) = take-left a b ts rest (derived-starts x)
derived-starts (derived.right {a = a} {b = b} {ts = ts} {rest = rest} x) = take-right a b ts rest (derived-starts x)
derived-starts derived.end = inl (refl, refl)
derived-starts (derived.more {a = a} {ts = ts} {mid = mid} {rest = rest} x y e) = take-more a ts mid rest (derived-starts x) (derived-starts y)
derived-starts derived.without = inl (refl, refl)
derived-starts (derived.with {a = a} {ts = ts} {rest = rest} x) = take-some a (Maybe a) ts rest refl refl (derived-starts x)

pub derived-shrinks : {a : Part} {ts rest : List Token} {f : List Item} → Derives a ts f rest → length rest ≤ length ts
derived-shrinks {a = a} {ts = ts} {rest = rest} x = Taken-shrinks a ts rest (derived-starts x)

-- where nothing is no list of the part, a first token is taken
pub derived-some : {a : Part} {ts rest : List Token} {f : List Item} → is_empty a ≡ false → Derives a ts f rest → Started a ts rest
derived-some {a = a} {ts = ts} {rest = rest} n x = go (derived-starts x)
  where
    go : Taken a ts rest → Started a ts rest
    go (inl h) = clash h.1 n
    go (inr h) = h

-- what begins a part

begin-symbol : (s : Symbol) (ts rest : List Token) → (ts ≡ rest) ⊎ Started (production s) ts rest → (ts ≡ rest) ⊎ Started (Sym s) ts rest
begin-symbol s ts rest (inl e) = inl e
begin-symbol s ts rest (inr h) = inr (at-within ts _ _ (fits s).begins h.0, h.1)

begin-first : (a b : Part) (ts rest : List Token) → (ts ≡ rest) ⊎ Started a ts rest → (ts ≡ rest) ⊎ Started (a ~ b) ts rest
begin-first a b ts rest (inl e) = inl e
begin-first a b ts rest (inr h) = inr (at-left ts (firsts a) _ h.0, h.1)

begin-left : (a b : Part) (ts rest : List Token) → (ts ≡ rest) ⊎ Started a ts rest → (ts ≡ rest) ⊎ Started (a // b) ts rest
begin-left a b ts rest (inl e) = inl e
begin-left a b ts rest (inr h) = inr (at-left ts (firsts a) _ h.0, h.1)

begin-right : (a b : Part) (ts rest : List Token) → (ts ≡ rest) ⊎ Started b ts rest → (ts ≡ rest) ⊎ Started (a // b) ts rest
begin-right a b ts rest (inl e) = inl e
begin-right a b ts rest (inr h) = inr (at-right ts (firsts a) _ h.0, h.1)

begin-same : (a b : Part) (ts rest : List Token) → firsts a ≡ firsts b → (ts ≡ rest) ⊎ Started a ts rest → (ts ≡ rest) ⊎ Started b ts rest
begin-same a b ts rest f (inl e) = inl e
begin-same a b ts rest f (inr h) = inr (subst (λ ks. at ts ks ≡ true) f h.0, h.1)

begin-more : (a : Part) (ts mid rest : List Token) → Taken a ts mid → (mid ≡ rest) ⊎ Started (Many a) mid rest → (ts ≡ rest) ⊎ Started (Many a) ts rest
begin-more a ts mid rest (inl h) g = subst (λ x. (x ≡ rest) ⊎ Started (Many a) x rest) (sym h.0) g
begin-more a ts mid rest (inr h) (inl e) = inr (h.0, subst (λ x. length x < length ts) e h.1)
begin-more a ts mid rest (inr h) (inr g) = inr (h.0, less)
  where
    less : length rest < length ts
    less = let l : length mid < length ts = h.1 in let m : length rest < length mid = g.1 in omega arith

pub begun-starts : {a : Part} {ts rest : List Token} → Begins a ts rest → (ts ≡ rest) ⊎ Started a ts rest
begun-starts begun.nothing = inl refl
begun-starts (begun.quoted {k = k} {t = t} {ts = ts} e) = inr (has-one t.kind k e, one-less t ts)
begun-starts (begun.symbol {s = s} {ts = ts} {rest = rest} x) = begin-symbol s ts rest (begun-starts x)
begun-starts (begun.first {a = a} {b = b} {ts = ts} {rest = rest} x) = begin-first a b ts rest (begun-starts x)
begun-starts (begun.next {a = a} {b = b} {ts = ts} {mid = mid} {rest = rest} f x y) = begin-both a b ts mid rest (derived-starts x) (begun-starts y)
begun-starts (begun.left {a = a} {b = b} {ts = ts} {rest = rest} x) = begin-left a b ts rest (begun-starts x)
begun-starts (begun.right {a = a} {b = b} {ts = ts} {rest = rest} x) = begin-right a b ts rest (begun-starts x)
begun-starts (begun.now {a = a} {ts = ts} {rest = rest} x) = begin-same a (Many a) ts rest refl (begun-starts x)
begun-starts (begun.later {a = a} {ts = ts} {mid = mid} {rest = rest} f x y) = begin-more a ts mid rest (derived-starts x) (begun-starts y)
begun-starts (begun.maybe {a = a} {ts = ts} {rest = rest} x) = begin-same a (Maybe a) ts rest refl (begun-starts x)

pub begun-shrinks : {a : Part} {ts rest : List Token} → Begins a ts rest → length rest ≤ length ts
begun-shrinks {a = a} {ts = ts} {rest = rest} x = go (begun-starts x)
  where
    go : (ts ≡ rest) ⊎ Started a ts rest → length rest ≤ length ts
    go (inl e) = subst (λ y. length rest ≤ length y) (sym e) (omega arith)
    go (inr h) = let less : length rest < length ts = h.1 in omega arith

-- what is derived begins
pub derived-begun : {a : Part} {ts rest : List Token} {f : List Item} → Derives a ts f rest → Begins a ts rest
derived-begun (derived.quoted e) = begun.quoted e
derived-begun (derived.symbol x e) = begun.symbol (derived-begun x)
derived-begun (derived.both {f = f} x y e) = begun.next f x (derived-begun y)
derived-begun (derived.left x) = begun.left (derived-begun x)
derived-begun (derived.right x) = begun.right (derived-begun x)
derived-begun derived.end = begun.nothing
derived-begun (derived.more {f = f} x y e) = begun.later f x (derived-begun y)
derived-begun derived.without = begun.nothing
derived-begun (derived.with x) = begun.maybe (derived-begun x)
