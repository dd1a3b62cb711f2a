-- Cutting off and putting on what follows a list, and the shorter lists before it.
use Rattle.std.proofs.Common.{◌≡◌, refl, sym, ◌∙◌, ap, subst, ◌+◌, ◌≤◌, ◌⊎◌, inl, inr, List, [], ◌∷◌, ◌++◌, length, append_assoc, length-append, arith}
use Rattle.std.proofs.lemmas.List.{append_cancel_right}
use Rattle.psl_grammar.specs.Derivation.{Derives, Derives as derived, Begins, Begins as begun}
use Rattle.psl_grammar.specs.Parts.{Part, Quoted, Many, Maybe}
use Rattle.psl_grammar.specs.Trees.{Token, Item, Tok}
use Rattle.psl_grammar.proofs.Exact.{cons-rest}

-- more tokens behind

pub derived-grows : {a : Part} {ts rest : List Token} {f : List Item} (zs : List Token) → Derives a ts f rest → Derives a (ts ++ zs) f (rest ++ zs)
derived-grows zs (derived.quoted e) = derived.quoted e
derived-grows zs (derived.symbol x e) = derived.symbol (derived-grows zs x) e
derived-grows zs (derived.both x y e) = derived.both (derived-grows zs x) (derived-grows zs y) e
derived-grows zs (derived.left x) = derived.left (derived-grows zs x)
derived-grows zs (derived.right x) = derived.right (derived-grows zs x)
derived-grows zs derived.end = derived.end
derived-grows zs (derived.more x y e) = derived.more (derived-grows zs x) (derived-grows zs y) e
derived-grows zs derived.without = derived.without
derived-grows zs (derived.with x) = derived.with (derived-grows zs x)

pub begun-grows : {a : Part} {ts rest : List Token} (zs : List Token) → Begins a ts rest → Begins a (ts ++ zs) (rest ++ zs)
begun-grows zs begun.nothing = begun.nothing
begun-grows zs (begun.quoted e) = begun.quoted e
begun-grows zs (begun.symbol x) = begun.symbol (begun-grows zs x)
begun-grows zs (begun.first x) = begun.first (begun-grows zs x)
begun-grows zs (begun.next f x y) = begun.next f (derived-grows zs x) (begun-grows zs y)
begun-grows zs (begun.left x) = begun.left (begun-grows zs x)
begun-grows zs (begun.right x) = begun.right (begun-grows zs x)
begun-grows zs (begun.now x) = begun.now (begun-grows zs x)
begun-grows zs (begun.later f x y) = begun.later f (derived-grows zs x) (begun-grows zs y)
begun-grows zs (begun.maybe x) = begun.maybe (begun-grows zs x)

-- what is left is the end of what was there

abbrev pub EndsIn : List Token → List Token → Type 0
EndsIn ts rest = (front : List Token) × (ts ≡ front ++ rest)

pub EndsIn-trans : (ts mid rest : List Token) → EndsIn ts mid → EndsIn mid rest → EndsIn ts rest
EndsIn-trans ts mid rest h g = (h.0 ++ g.0, h.1 ∙ ap (λ z. h.0 ++ z) g.1 ∙ sym (append_assoc h.0 g.0 rest))

pub derived-ends : {a : Part} {ts rest : List Token} {f : List Item} → Derives a ts f rest → EndsIn ts rest
derived-ends (derived.quoted {t = t} e) = (t ∷ [], refl)
derived-ends (derived.symbol x e) = derived-ends x
derived-ends (derived.both {ts = ts} {mid = mid} {rest = rest} x y e) = EndsIn-trans ts mid rest (derived-ends x) (derived-ends y)
derived-ends (derived.left x) = derived-ends x
derived-ends (derived.right x) = derived-ends x
derived-ends derived.end = ([], refl)
derived-ends (derived.more {ts = ts} {mid = mid} {rest = rest} x y e) = EndsIn-trans ts mid rest (derived-ends x) (derived-ends y)
derived-ends derived.without = ([], refl)
derived-ends (derived.with x) = derived-ends x

pub begun-ends : {a : Part} {ts rest : List Token} → Begins a ts rest → EndsIn ts rest
begun-ends begun.nothing = ([], refl)
begun-ends (begun.quoted {t = t} e) = (t ∷ [], refl)
begun-ends (begun.symbol x) = begun-ends x
begun-ends (begun.first x) = begun-ends x
begun-ends (begun.next {ts = ts} {mid = mid} {rest = rest} f x y) = EndsIn-trans ts mid rest (derived-ends x) (begun-ends y)
begun-ends (begun.left x) = begun-ends x
begun-ends (begun.right x) = begun-ends x
begun-ends (begun.now x) = begun-ends x
begun-ends (begun.later {ts = ts} {mid = mid} {rest = rest} f x y) = EndsIn-trans ts mid rest (derived-ends x) (begun-ends y)
begun-ends (begun.maybe x) = begun-ends x

-- the same tokens taken off behind

cut-same : (zs xs rest ts : List Token) → ts ≡ xs ++ zs → ts ≡ rest ++ zs → rest ≡ xs
cut-same zs xs rest ts e h = append_cancel_right rest xs zs (sym h ∙ e)

cut-token : (zs xs rest ts : List Token) (t : Token) → t ∷ ts ≡ xs ++ zs → ts ≡ rest ++ zs → t ∷ rest ≡ xs
cut-token zs xs rest ts t e h = append_cancel_right (t ∷ rest) xs zs (ap (λ z. t ∷ z) (sym h) ∙ e)

-- where the middle of two parts is cut
cut-middle : (zs rest mid q : List Token) (h : EndsIn mid q) → q ≡ rest ++ zs → mid ≡ (h.0 ++ rest) ++ zs
cut-middle zs rest mid q h e = h.1 ∙ ap (λ z. h.0 ++ z) e ∙ sym (append_assoc h.0 rest zs)

pub derived-cut : {a : Part} {ts q : List Token} {f : List Item} (zs xs rest : List Token) → ts ≡ xs ++ zs → q ≡ rest ++ zs → Derives a ts f q → Derives a xs f rest
derived-cut zs xs rest e h (derived.quoted {k = k} {t = t} {ts = ts} x) = subst (λ z. Derives (Quoted k) z (Tok t ∷ []) rest) (cut-token zs xs rest ts t e h) (derived.quoted x)
derived-cut zs xs rest e h (derived.symbol x i) = derived.symbol (derived-cut zs xs rest e h x) i
derived-cut zs xs rest e h (derived.both {mid = mid} {rest = q} x y i) =
    let middle : List Token = (derived-ends y).0 ++ rest in
    let split : mid ≡ middle ++ zs = cut-middle zs rest mid q (derived-ends y) h in
    derived.both (derived-cut zs xs middle e split x) (derived-cut zs middle rest split h y) i
derived-cut zs xs rest e h (derived.left x) = derived.left (derived-cut zs xs rest e h x)
derived-cut zs xs rest e h (derived.right x) = derived.right (derived-cut zs xs rest e h x)
derived-cut zs xs rest e h (derived.end {a = a} {ts = ts}) = subst (λ z. Derives (Many a) z [] rest) (cut-same zs xs rest ts e h) derived.end
derived-cut zs xs rest e h (derived.more {mid = mid} {rest = q} x y i) =
    let middle : List Token = (derived-ends y).0 ++ rest in
    let split : mid ≡ middle ++ zs = cut-middle zs rest mid q (derived-ends y) h in
    derived.more (derived-cut zs xs middle e split x) (derived-cut zs middle rest split h y) i
derived-cut zs xs rest e h (derived.without {a = a} {ts = ts}) = subst (λ z. Derives (Maybe a) z [] rest) (cut-same zs xs rest ts e h) derived.without
derived-cut zs xs rest e h (derived.with x) = derived.with (derived-cut zs xs rest e h x)

pub begun-cut : {a : Part} {ts q : List Token} (zs xs rest : List Token) → ts ≡ xs ++ zs → q ≡ rest ++ zs → Begins a ts q → Begins a xs rest
begun-cut zs xs rest e h (begun.nothing {a = a} {ts = ts}) = subst (λ z. Begins a z rest) (cut-same zs xs rest ts e h) begun.nothing
begun-cut zs xs rest e h (begun.quoted {k = k} {t = t} {ts = ts} x) = subst (λ z. Begins (Quoted k) z rest) (cut-token zs xs rest ts t e h) (begun.quoted x)
begun-cut zs xs rest e h (begun.symbol x) = begun.symbol (begun-cut zs xs rest e h x)
begun-cut zs xs rest e h (begun.first x) = begun.first (begun-cut zs xs rest e h x)
begun-cut zs xs rest e h (begun.next {mid = mid} {rest = q} f x y) =
    let middle : List Token = (begun-ends y).0 ++ rest in
    let split : mid ≡ middle ++ zs = cut-middle zs rest mid q (begun-ends y) h in
    begun.next f (derived-cut zs xs middle e split x) (begun-cut zs middle rest split h y)
begun-cut zs xs rest e h (begun.left x) = begun.left (begun-cut zs xs rest e h x)
begun-cut zs xs rest e h (begun.right x) = begun.right (begun-cut zs xs rest e h x)
begun-cut zs xs rest e h (begun.now x) = begun.now (begun-cut zs xs rest e h x)
begun-cut zs xs rest e h (begun.later {mid = mid} {rest = q} f x y) =
    let middle : List Token = (begun-ends y).0 ++ rest in
    let split : mid ≡ middle ++ zs = cut-middle zs rest mid q (begun-ends y) h in
    begun.later f (derived-cut zs xs middle e split x) (begun-cut zs middle rest split h y)
begun-cut zs xs rest e h (begun.maybe x) = begun.maybe (begun-cut zs xs rest e h x)

-- two ends of one list: one is an end of the other

split-ends : (p u m n : List Token) → p ++ m ≡ u ++ n → EndsIn m n ⊎ EndsIn n m
split-ends [] u m n e = inl (u, e)
split-ends (t ∷ p) [] m n e = inr (t ∷ p, sym e)
split-ends (t ∷ p) (x ∷ u) m n e = split-ends p u m n (cons-rest e)

pub ends-compare : (ts m n : List Token) → EndsIn ts m → EndsIn ts n → EndsIn m n ⊎ EndsIn n m
ends-compare ts m n h g = split-ends h.0 g.0 m n (sym h.1 ∙ g.1)

pub ends-shorter : (ts m : List Token) → EndsIn ts m → length m ≤ length ts
ends-shorter ts m h = subst (λ z. length m ≤ length z) (sym h.1) (subst (λ k. length m ≤ k) (sym (length-append h.0 m)) (omega arith))

-- each is an end of the other
pub ends-same : (m n : List Token) → EndsIn m n → EndsIn n m → m ≡ n
ends-same m n h g = go h.0 h.1
  where
    least : length m ≤ length n
    least = ends-shorter n m g

    go : (v : List Token) → m ≡ v ++ n → m ≡ n
    go [] e = e
    go (t ∷ v) e = absurd (none (subst (λ z. length z ≤ length n) e least))
      where
        none : length ((t ∷ v) ++ n) ≤ length n → ⊥
        none i = let sum : length (v ++ n) ≡ length v + length n = length-append v n in omega arith

-- what begins a part, and each shorter list

quoted-shorter : (a : Part) (t : Token) (ts m : List Token) → EndsIn (t ∷ ts) m → EndsIn m ts → Begins a (t ∷ ts) ts → Begins a (t ∷ ts) m
quoted-shorter a t ts m h g x = go h.0 h.1
  where
    go : (p : List Token) → t ∷ ts ≡ p ++ m → Begins a (t ∷ ts) m
    go [] e = subst (λ z. Begins a (t ∷ ts) z) e begun.nothing
    go (u ∷ p) e = subst (λ z. Begins a (t ∷ ts) z) (sym (ends-same m ts g (p, cons-rest e))) x

same-shorter : (a : Part) (ts m : List Token) → EndsIn ts m → EndsIn m ts → Begins a ts m
same-shorter a ts m h g = subst (λ z. Begins a ts z) (ends-same ts m h g) begun.nothing

pub derived-shorter : {a : Part} {ts rest : List Token} {f : List Item} (m : List Token) → EndsIn ts m → EndsIn m rest → Derives a ts f rest → Begins a ts m
derived-shorter m h g (derived.quoted {k = k} {t = t} {ts = ts} e) = quoted-shorter (Quoted k) t ts m h g (begun.quoted e)
derived-shorter m h g (derived.symbol x e) = begun.symbol (derived-shorter m h g x)
derived-shorter m h g (derived.both {ts = ts} {mid = mid} {f = f} x y e) =
    elim (ends-compare ts m mid h (derived-ends x)) [
      | inl i ↦ begun.first (derived-shorter m h i x)
      | inr i ↦ begun.next f x (derived-shorter m i g y)
    ]
derived-shorter m h g (derived.left x) = begun.left (derived-shorter m h g x)
derived-shorter m h g (derived.right x) = begun.right (derived-shorter m h g x)
derived-shorter m h g (derived.end {a = a} {ts = ts}) = same-shorter (Many a) ts m h g
derived-shorter m h g (derived.more {ts = ts} {mid = mid} {f = f} x y e) =
    elim (ends-compare ts m mid h (derived-ends x)) [
      | inl i ↦ begun.now (derived-shorter m h i x)
      | inr i ↦ begun.later f x (derived-shorter m i g y)
    ]
derived-shorter m h g (derived.without {a = a} {ts = ts}) = same-shorter (Maybe a) ts m h g
derived-shorter m h g (derived.with x) = begun.maybe (derived-shorter m h g x)

pub begun-shorter : {a : Part} {ts rest : List Token} (m : List Token) → EndsIn ts m → EndsIn m rest → Begins a ts rest → Begins a ts m
begun-shorter m h g (begun.nothing {a = a} {ts = ts}) = same-shorter a ts m h g
begun-shorter m h g (begun.quoted {k = k} {t = t} {ts = ts} e) = quoted-shorter (Quoted k) t ts m h g (begun.quoted e)
begun-shorter m h g (begun.symbol x) = begun.symbol (begun-shorter m h g x)
begun-shorter m h g (begun.first x) = begun.first (begun-shorter m h g x)
begun-shorter m h g (begun.next {ts = ts} {mid = mid} f x y) =
    elim (ends-compare ts m mid h (derived-ends x)) [
      | inl i ↦ begun.first (derived-shorter m h i x)
      | inr i ↦ begun.next f x (begun-shorter m i g y)
    ]
begun-shorter m h g (begun.left x) = begun.left (begun-shorter m h g x)
begun-shorter m h g (begun.right x) = begun.right (begun-shorter m h g x)
begun-shorter m h g (begun.now x) = begun.now (begun-shorter m h g x)
begun-shorter m h g (begun.later {ts = ts} {mid = mid} f x y) =
    elim (ends-compare ts m mid h (derived-ends x)) [
      | inl i ↦ begun.now (derived-shorter m h i x)
      | inr i ↦ begun.later f x (begun-shorter m i g y)
    ]
begun-shorter m h g (begun.maybe x) = begun.maybe (begun-shorter m h g x)
