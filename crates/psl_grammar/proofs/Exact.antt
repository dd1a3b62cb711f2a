-- What a reader does against what is derived and what begins: the reader finds the one derivation, and it stops no later
-- than what begins its part.
use Rattle.std.proofs.Common.{◌≡◌, refl, sym, ◌∙◌, ap, ap₂, subst, ℕ, suc, ◌≤◌, ◌<◌, true, false, ◌⊎◌, inl, inr, List, [], ◌∷◌, ◌++◌, length, arith}
use Rattle.psl_lexer.specs.declared.kind.TokenKind.{TokenKind}
use Rattle.psl_grammar.specs.Derivation.{Derives, Derives as derived, Begins, Begins as begun}
use Rattle.psl_grammar.specs.Firsts.{at, is_empty, firsts, goes_left}
use Rattle.psl_grammar.specs.Parts.{Symbol, Part, Sym, ◌~◌, ◌//◌, Many}
use Rattle.psl_grammar.specs.Productions.{production}
use Rattle.psl_grammar.specs.Reading.{State, Reads, Reads as reads, Stops, Stops as stops, Syntax}
use Rattle.psl_grammar.specs.Trees.{Token, Item, Tok, Tree, built}
use Rattle.psl_grammar.proofs.Choices.{both-first, both-second, both-apart, choice-first, choice-second, choice-told, choice-some, many-one, many-some, many-apart, maybe-one, maybe-some, left-starts, left-not_right, right-not_left, left-short, right-short, one-side}
use Rattle.psl_grammar.proofs.Decided.{decides, ons, fits}
use Rattle.psl_grammar.proofs.Lengths.{Taken, Started, derived-starts, derived-some, derived-begun, begun-starts}
use Rattle.psl_grammar.proofs.NextToken.{clash, has-one, at-left, at-right, at-apart, at-if, at-within}
use Rattle.psl_grammar.proofs.Past.{takes-one, stop-past}
use Rattle.psl_grammar.proofs.Readers.{read-shrinks, stop-shrinks}

-- the same items, and the same tokens left
pub record Same (f g : List Item) (r q : List Token) : Type 0 where
  pub items : f ≡ g
  pub rests : r ≡ q

pub cons-first : {t u : Token} {xs ys : List Token} → u ∷ ys ≡ t ∷ xs → u ≡ t
cons-first e = cc

pub cons-rest : {t u : Token} {xs ys : List Token} → u ∷ ys ≡ t ∷ xs → ys ≡ xs
cons-rest e = cc

same : {f g : List Item} {r q : List Token} → f ≡ g → r ≡ q → Same f g r q
same e h = record { items = e; rests = h }

Same-both : {f g h i j k : List Item} {r q : List Token} → f ≡ g → h ≡ f ++ j → i ≡ g ++ k → Same j k r q → Same h i r q
Same-both e x y z = same (x ∙ ap₂ ◌++◌ e z.items ∙ sym y) z.rests

Same-symbol : (s : Symbol) {f g h i : List Item} {r q : List Token} → h ≡ Tree (built s f) ∷ [] → i ≡ Tree (built s g) ∷ [] → Same f g r q → Same h i r q
Same-symbol s x y z = same (x ∙ ap (λ f. Tree (built s f) ∷ []) z.items ∙ sym y) z.rests

Same-token : {t u : Token} {xs ys : List Token} → u ∷ ys ≡ t ∷ xs → Same (Tok t ∷ []) (Tok u ∷ []) xs ys
Same-token e = same (ap (λ t. Tok t ∷ []) (sym (cons-first e))) (sym (cons-rest e))

-- where the tokens that go on stand

on-second : (a b : Part) (ts : List Token) → at ts (ons b) ≡ true → at ts (ons (a ~ b)) ≡ true
on-second a b ts p = at-left ts (ons b) _ p

on-first : (a b : Part) (ts : List Token) → is_empty b ≡ true → at ts (ons a) ≡ true → at ts (ons (a ~ b)) ≡ true
on-first a b ts e p = at-right ts (ons b) _ (at-if ts (is_empty b) _ e p)

on-left : (a b : Part) (ts : List Token) → at ts (ons a) ≡ true → at ts (ons (a // b)) ≡ true
on-left a b ts p = at-left ts (ons a) _ p

on-right : (a b : Part) (ts : List Token) → at ts (ons b) ≡ true → at ts (ons (a // b)) ≡ true
on-right a b ts p = at-right ts (ons a) _ (at-left ts (ons b) _ p)

on-none : (a b : Part) (ts : List Token) → is_empty b ≡ true → at ts (firsts a) ≡ true → at ts (ons (a // b)) ≡ true
on-none a b ts e p = at-right ts (ons a) _ (at-right ts (ons b) _ (at-if ts (is_empty b) _ e p))

on-start : (a : Part) (ts : List Token) → at ts (firsts a) ≡ true → at ts (ons (Many a)) ≡ true
on-start a ts p = at-left ts (firsts a) _ p

on-more : (a : Part) (ts : List Token) → at ts (ons a) ≡ true → at ts (ons (Many a)) ≡ true
on-more a ts p = at-right ts (firsts a) _ p

on-symbol : (s : Symbol) (ts : List Token) → at ts (ons (production s)) ≡ true → at ts (ons (Sym s)) ≡ true
on-symbol s ts p = at-within ts _ _ (fits s).goes_on p

-- a token that goes on with the first part stands behind it, and then the second part: that is nothing
after-first : (a b : Part) (mid rest : List Token) {f : List Item} → decides (a ~ b) ≡ true → at mid (ons a) ≡ true → Derives b mid f rest → at rest (ons (a ~ b)) ≡ true
after-first a b mid rest h p y = go (derived-starts y)
  where
    go : Taken b mid rest → at rest (ons (a ~ b)) ≡ true
    go (inl g) = on-first a b rest g.1 (subst (λ z. at z (ons a) ≡ true) g.0 p)
    go (inr g) = at-apart mid (ons a) (firsts b) (both-apart a b h) p g.0

after-more : (a : Part) (mid rest : List Token) {f : List Item} → decides (Many a) ≡ true → at mid (ons a) ≡ true → Derives (Many a) mid f rest → at rest (ons (Many a)) ≡ true
after-more a mid rest h p y = go (derived-starts y)
  where
    go : Taken (Many a) mid rest → at rest (ons (Many a)) ≡ true
    go (inl g) = on-more a rest (subst (λ z. at z (ons a) ≡ true) g.0 p)
    go (inr g) = at-apart mid (ons a) (firsts a) (many-apart a h) p g.0

-- the same of what begins the second part
begun-after : (a b : Part) (mid rest : List Token) → decides (a ~ b) ≡ true → at mid (ons a) ≡ true → Begins b mid rest → mid ≡ rest
begun-after a b mid rest h p y = go (begun-starts y)
  where
    go : (mid ≡ rest) ⊎ Started b mid rest → mid ≡ rest
    go (inl e) = e
    go (inr g) = at-apart mid (ons a) (firsts b) (both-apart a b h) p g.0

begun-again : (a : Part) (mid rest : List Token) → decides (Many a) ≡ true → at mid (ons a) ≡ true → Begins (Many a) mid rest → mid ≡ rest
begun-again a mid rest h p y = go (begun-starts y)
  where
    go : (mid ≡ rest) ⊎ Started (Many a) mid rest → mid ≡ rest
    go (inl e) = e
    go (inr g) = at-apart mid (ons a) (firsts a) (many-apart a h) p g.0

-- the other side is derived, and it is nothing
only-none : (a b : Part) (ts rest : List Token) {f : List Item} → decides (a // b) ≡ true → goes_left a b ts ≡ true → Derives b ts f rest → at rest (ons (a // b)) ≡ true
only-none a b ts rest h g y = go (derived-starts y)
  where
    go : Taken b ts rest → at rest (ons (a // b)) ≡ true
    go (inl e) = on-none a b rest e.1 (subst (λ z. at z (firsts a) ≡ true) e.0 (left-starts a b ts g))
    go (inr k) = left-not_right a b ts rest (choice-told a b h) g y k

-- both sides are derived: the right one is nothing
one-none : (a b : Part) (ts us r q : List Token) {f g : List Item} → decides (a // b) ≡ true → ts ≡ us → Derives a ts f r → Derives b us g q → at q (ons (a // b)) ≡ true
one-none a b ts us r q {f = f} h e x y = go (derived-starts y)
  where
    at_first : Derives a us f r
    at_first = subst (λ z. Derives a z f r) e x

    go : Taken b us q → at q (ons (a // b)) ≡ true
    go (inl g) = on-none a b q g.1 (subst (λ z. at z (firsts a) ≡ true) g.0 (derived-some (choice-some a b h) at_first).0)
    go (inr g) = one-side a b us r q (choice-told a b h) at_first (derived-some (choice-some a b h) at_first) y g

-- the left side is never derived where the right one is taken
never-left : {A : Type 0} (a b : Part) (ts rest : List Token) {f : List Item} → decides (a // b) ≡ true → goes_left a b ts ≡ false → Derives a ts f rest → A
never-left a b ts rest h g y = right-not_left a b ts rest (choice-told a b h) g y (derived-some (choice-some a b h) y)

-- A reader finds what is derived, or the derivation ends before a token that goes on with the part.
pub det : {a : Part} {from to : State} {f g : List Item} {xs rest : List Token} → decides a ≡ true → xs ≡ from.tokens → Reads a from f to → Derives a xs g rest → Same f g to.tokens rest ⊎ (at rest (ons a) ≡ true)
det h e (reads.quoted x) (derived.quoted y) = inl (Same-token (e ∙ x.front))
det h e (reads.symbol {s = s} x i) (derived.symbol {rest = rest} y j) =
    elim (det (fits s).decided e x y) [ inl z ↦ inl (Same-symbol s i j z) | inr p ↦ inr (on-symbol s rest p) ]
det h e (reads.both {a = a} {b = b} x y i) (derived.both {mid = mid} {rest = rest} z w j) =
    elim (det (both-first a b h) e x z) [
      | inl k ↦ elim (det (both-second a b h) (sym k.rests) y w) [ inl l ↦ inl (Same-both k.items i j l) | inr p ↦ inr (on-second a b rest p) ]
      | inr p ↦ inr (after-first a b mid rest h p w)
    ]
det h e (reads.left {a = a} {b = b} g x) (derived.left {rest = rest} y) =
    elim (det (choice-first a b h) e x y) [ inl k ↦ inl k | inr p ↦ inr (on-left a b rest p) ]
det h e (reads.left {a = a} {b = b} g x) (derived.right {ts = ts} {rest = rest} y) =
    inr (only-none a b ts rest h (subst (λ z. goes_left a b z ≡ true) (sym e) g.holds) y)
det h e (reads.right {a = a} {b = b} g x) (derived.left {ts = ts} {rest = rest} y) =
    never-left a b ts rest h (subst (λ z. goes_left a b z ≡ false) (sym e) g.holds) y
det h e (reads.right {a = a} {b = b} g x) (derived.right {rest = rest} y) =
    elim (det (choice-second a b h) e x y) [ inl k ↦ inl k | inr p ↦ inr (on-right a b rest p) ]
det h e (reads.end g) derived.end = inl (same refl (sym e))
det h e (reads.end {a = a} g) (derived.more {ts = ts} x y j) = clash (derived-some (many-some a h) x).0 (subst (λ z. at z (firsts a) ≡ false) (sym e) g.holds)
det h e (reads.more {a = a} g x y i) (derived.end {ts = ts}) = inr (on-start a ts (subst (λ z. at z (firsts a) ≡ true) (sym e) g.holds))
det h e (reads.more {a = a} g x y i) (derived.more {mid = mid} {rest = rest} z w j) =
    elim (det (many-one a h) e x z) [
      | inl k ↦ elim (det h (sym k.rests) y w) [ inl l ↦ inl (Same-both k.items i j l) | inr p ↦ inr p ]
      | inr p ↦ inr (after-more a mid rest h p w)
    ]
det h e (reads.without g) derived.without = inl (same refl (sym e))
det h e (reads.without {a = a} g) (derived.with {ts = ts} x) = clash (derived-some (maybe-some a h) x).0 (subst (λ z. at z (firsts a) ≡ false) (sym e) g.holds)
det h e (reads.with {a = a} g x) (derived.without {ts = ts}) = inr (on-start a ts (subst (λ z. at z (firsts a) ≡ true) (sym e) g.holds))
det h e (reads.with {a = a} g x) (derived.with {rest = rest} y) =
    elim (det (maybe-one a h) e x y) [ inl k ↦ inl k | inr p ↦ inr (on-more a rest p) ]

-- lengths

up : {k m n : ℕ} → k ≤ m → m ≤ n → k ≤ n
up h g = omega arith

shorter : {k m n : ℕ} → k < m → m ≤ suc n → k ≤ n
shorter h g = omega arith

at-most : (xs ts : List Token) {n : ℕ} → xs ≡ ts → n ≤ length ts → n ≤ length xs
at-most xs ts {n = n} e h = subst (λ z. n ≤ length z) (sym e) h

-- A reader reads at least what begins its part.

-- the reader read the left side; something begins the right one
covers-right : (a b : Part) (xs rest : List Token) (n : ℕ) → decides (a // b) ≡ true → goes_left a b xs ≡ true → n < length xs → Begins b xs rest → n ≤ length rest
covers-right a b xs rest n h g l y = go (begun-starts y)
  where
    go : (xs ≡ rest) ⊎ Started b xs rest → n ≤ length rest
    go (inl e) = subst (λ z. n ≤ length z) e (omega arith)
    go (inr k) = shorter l (left-short a b xs rest (choice-told a b h) g y k)

-- the reader read the right side; something begins the left one
covers-left : (a b : Part) (xs rest : List Token) (n : ℕ) → decides (a // b) ≡ true → goes_left a b xs ≡ false → n ≤ length xs → (at xs (firsts b) ≡ true → n < length xs) → Begins a xs rest → n ≤ length rest
covers-left a b xs rest n h g m l y = go (begun-starts y)
  where
    go : (xs ≡ rest) ⊎ Started a xs rest → n ≤ length rest
    go (inl e) = subst (λ z. n ≤ length z) e m
    go (inr k) = let found : (at xs (firsts b) ≡ true) × (length xs ≤ suc (length rest)) = right-short a b xs rest (choice-told a b h) g y k in shorter (l found.0) found.1

-- the reader did not start; what begins the part is nothing
covers-none : (a : Part) (xs rest : List Token) → at xs (firsts a) ≡ false → Begins a xs rest → length xs ≤ length rest
covers-none a xs rest h y = go (begun-starts y)
  where
    go : (xs ≡ rest) ⊎ Started a xs rest → length xs ≤ length rest
    go (inl e) = subst (λ z. length xs ≤ length z) e (omega arith)
    go (inr k) = clash k.0 h

pub covers : {a : Part} {from to : State} {f : List Item} {xs rest : List Token} → decides a ≡ true → xs ≡ from.tokens → Reads a from f to → Begins a xs rest → length to.tokens ≤ length rest
covers {xs = xs} h e x begun.nothing = at-most xs _ e (read-shrinks x)
covers h e (reads.quoted x) (begun.quoted {ts = ts} y) = at-most ts _ (cons-rest (e ∙ x.front)) (omega arith)
covers h e (reads.symbol {s = s} x i) (begun.symbol y) = covers (fits s).decided e x y
covers h e (reads.both {a = a} {b = b} x y i) (begun.first z) = up (read-shrinks y) (covers (both-first a b h) e x z)
covers h e (reads.both {a = a} {b = b} {to = to} x y i) (begun.next {mid = mid} {rest = rest} g z w) =
    elim (det (both-first a b h) e x z) [
      | inl k ↦ covers (both-second a b h) (sym k.rests) y w
      | inr p ↦ subst (λ q. length to.tokens ≤ length q) (begun-after a b mid rest h p w) (up (read-shrinks y) (covers (both-first a b h) e x (derived-begun z)))
    ]
covers h e (reads.left {a = a} {b = b} g x) (begun.left y) = covers (choice-first a b h) e x y
covers h e (reads.left {a = a} {b = b} {from = from} {to = to} g x) (begun.right {ts = ts} {rest = rest} y) =
    covers-right a b ts rest (length to.tokens) h (subst (λ z. goes_left a b z ≡ true) (sym e) g.holds) (subst (λ z. length to.tokens < length z) (sym e) (takes-one x (left-starts a b from.tokens g.holds))) y
covers h e (reads.right {a = a} {b = b} {to = to} g x) (begun.left {ts = ts} {rest = rest} y) =
    covers-left a b ts rest (length to.tokens) h (subst (λ z. goes_left a b z ≡ false) (sym e) g.holds) (at-most ts _ e (read-shrinks x)) (λ p. subst (λ z. length to.tokens < length z) (sym e) (takes-one x (subst (λ z. at z (firsts b) ≡ true) e p))) y
covers h e (reads.right {a = a} {b = b} g x) (begun.right y) = covers (choice-second a b h) e x y
covers h e (reads.end {a = a} g) (begun.now {ts = ts} {rest = rest} y) =
    subst (λ z. length z ≤ length rest) e (covers-none a ts rest (subst (λ z. at z (firsts a) ≡ false) (sym e) g.holds) y)
covers h e (reads.end {a = a} g) (begun.later {ts = ts} f x y) = clash (derived-some (many-some a h) x).0 (subst (λ z. at z (firsts a) ≡ false) (sym e) g.holds)
covers h e (reads.more {a = a} g x y i) (begun.now z) = up (read-shrinks y) (covers (many-one a h) e x z)
covers h e (reads.more {a = a} {to = to} g x y i) (begun.later {mid = mid} {rest = rest} f z w) =
    elim (det (many-one a h) e x z) [
      | inl k ↦ covers h (sym k.rests) y w
      | inr p ↦ subst (λ q. length to.tokens ≤ length q) (begun-again a mid rest h p w) (up (read-shrinks y) (covers (many-one a h) e x (derived-begun z)))
    ]
covers h e (reads.without {a = a} g) (begun.maybe {ts = ts} {rest = rest} y) =
    subst (λ z. length z ≤ length rest) e (covers-none a ts rest (subst (λ z. at z (firsts a) ≡ false) (sym e) g.holds) y)
covers h e (reads.with {a = a} g x) (begun.maybe y) = covers (maybe-one a h) e x y

-- Where a reader stops, a derivation ends before a token that goes on with the part.
not-quoted : {A : Type 0} (t : Token) (ts : List Token) {k : TokenKind} (from : List Token) → t ∷ ts ≡ from → at from (k ∷ []) ≡ false → t.kind ≡ k → A
not-quoted t ts {k = k} from e h y = clash (subst (λ z. at z (k ∷ []) ≡ true) e (has-one t.kind k y)) h

pub stop-on : {a : Part} {from stop : State} {g : List Item} {xs rest : List Token} → decides a ≡ true → xs ≡ from.tokens → Stops Syntax a from stop → Derives a xs g rest → at rest (ons a) ≡ true
stop-on h e (stops.quoted {from = from} x i) (derived.quoted {t = t} {ts = ts} y) = not-quoted t ts from.tokens e x y
stop-on h e (stops.symbol {s = s} x) (derived.symbol {rest = rest} y j) = on-symbol s rest (stop-on (fits s).decided e x y)
stop-on h e (stops.first {a = a} {b = b} x) (derived.both {mid = mid} {rest = rest} z w j) = after-first a b mid rest h (stop-on (both-first a b h) e x z) w
stop-on h e (stops.next {a = a} {b = b} f x y) (derived.both {mid = mid} {rest = rest} z w j) =
    elim (det (both-first a b h) e x z) [
      | inl k ↦ on-second a b rest (stop-on (both-second a b h) (sym k.rests) y w)
      | inr p ↦ after-first a b mid rest h p w
    ]
stop-on h e (stops.left {a = a} {b = b} g x) (derived.left {rest = rest} y) = on-left a b rest (stop-on (choice-first a b h) e x y)
stop-on h e (stops.left {a = a} {b = b} g x) (derived.right {ts = ts} {rest = rest} y) = only-none a b ts rest h (subst (λ z. goes_left a b z ≡ true) (sym e) g.holds) y
stop-on h e (stops.right {a = a} {b = b} g x) (derived.left {ts = ts} {rest = rest} y) = never-left a b ts rest h (subst (λ z. goes_left a b z ≡ false) (sym e) g.holds) y
stop-on h e (stops.right {a = a} {b = b} g x) (derived.right {rest = rest} y) = on-right a b rest (stop-on (choice-second a b h) e x y)
stop-on h e (stops.now {a = a} g x) (derived.end {ts = ts}) = on-start a ts (subst (λ z. at z (firsts a) ≡ true) (sym e) g.holds)
stop-on h e (stops.now {a = a} g x) (derived.more {mid = mid} {rest = rest} z w j) = after-more a mid rest h (stop-on (many-one a h) e x z) w
stop-on h e (stops.later {a = a} f g x y) (derived.end {ts = ts}) = on-start a ts (subst (λ z. at z (firsts a) ≡ true) (sym e) g.holds)
stop-on h e (stops.later {a = a} f g x y) (derived.more {mid = mid} {rest = rest} z w j) =
    elim (det (many-one a h) e x z) [ inl k ↦ stop-on h (sym k.rests) y w | inr p ↦ after-more a mid rest h p w ]
stop-on h e (stops.maybe {a = a} g x) (derived.without {ts = ts}) = on-start a ts (subst (λ z. at z (firsts a) ≡ true) (sym e) g.holds)
stop-on h e (stops.maybe {a = a} g x) (derived.with {rest = rest} y) = on-more a rest (stop-on (maybe-one a h) e x y)

-- A reader stops behind at least what begins its part.
pub stop-covers : {a : Part} {from stop : State} {xs rest : List Token} → decides a ≡ true → xs ≡ from.tokens → Stops Syntax a from stop → Begins a xs rest → length stop.tokens ≤ length rest
stop-covers {xs = xs} h e x begun.nothing = at-most xs _ e (stop-shrinks x)
stop-covers h e (stops.quoted {from = from} x i) (begun.quoted {t = t} {ts = ts} y) = not-quoted t ts from.tokens e x y
stop-covers h e (stops.symbol {s = s} x) (begun.symbol y) = stop-covers (fits s).decided e x y
stop-covers h e (stops.first {a = a} {b = b} x) (begun.first y) = stop-covers (both-first a b h) e x y
stop-covers h e (stops.first {a = a} {b = b} {stop = stop} x) (begun.next {mid = mid} {rest = rest} f z w) =
    subst (λ q. length stop.tokens ≤ length q) (begun-after a b mid rest h (stop-on (both-first a b h) e x z) w) (stop-covers (both-first a b h) e x (derived-begun z))
stop-covers h e (stops.next {a = a} {b = b} f x y) (begun.first z) = up (stop-shrinks y) (covers (both-first a b h) e x z)
stop-covers h e (stops.next {a = a} {b = b} {stop = stop} f x y) (begun.next {mid = mid} {rest = rest} g z w) =
    elim (det (both-first a b h) e x z) [
      | inl k ↦ stop-covers (both-second a b h) (sym k.rests) y w
      | inr p ↦ subst (λ q. length stop.tokens ≤ length q) (begun-after a b mid rest h p w) (up (stop-shrinks y) (covers (both-first a b h) e x (derived-begun z)))
    ]
stop-covers h e (stops.left {a = a} {b = b} g x) (begun.left y) = stop-covers (choice-first a b h) e x y
stop-covers h e (stops.left {a = a} {b = b} {from = from} {stop = stop} g x) (begun.right {ts = ts} {rest = rest} y) =
    covers-right a b ts rest (length stop.tokens) h (subst (λ z. goes_left a b z ≡ true) (sym e) g.holds) (subst (λ z. length stop.tokens < length z) (sym e) (stop-past (choice-first a b h) x (left-starts a b from.tokens g.holds))) y
stop-covers h e (stops.right {a = a} {b = b} {stop = stop} g x) (begun.left {ts = ts} {rest = rest} y) =
    covers-left a b ts rest (length stop.tokens) h (subst (λ z. goes_left a b z ≡ false) (sym e) g.holds) (at-most ts _ e (stop-shrinks x)) (λ p. subst (λ z. length stop.tokens < length z) (sym e) (stop-past (choice-second a b h) x (subst (λ z. at z (firsts b) ≡ true) e p))) y
stop-covers h e (stops.right {a = a} {b = b} g x) (begun.right y) = stop-covers (choice-second a b h) e x y
stop-covers h e (stops.now {a = a} g x) (begun.now y) = stop-covers (many-one a h) e x y
stop-covers h e (stops.now {a = a} {stop = stop} g x) (begun.later {mid = mid} {rest = rest} f z w) =
    subst (λ q. length stop.tokens ≤ length q) (begun-again a mid rest h (stop-on (many-one a h) e x z) w) (stop-covers (many-one a h) e x (derived-begun z))
stop-covers h e (stops.later {a = a} f g x y) (begun.now z) = up (stop-shrinks y) (covers (many-one a h) e x z)
stop-covers h e (stops.later {a = a} {stop = stop} f g x y) (begun.later {mid = mid} {rest = rest} i z w) =
    elim (det (many-one a h) e x z) [
      | inl k ↦ stop-covers h (sym k.rests) y w
      | inr p ↦ subst (λ q. length stop.tokens ≤ length q) (begun-again a mid rest h p w) (up (stop-shrinks y) (covers (many-one a h) e x (derived-begun z)))
    ]
stop-covers h e (stops.maybe {a = a} g x) (begun.maybe y) = stop-covers (maybe-one a h) e x y

-- Two derivations of a part from one list give the same, or one of them ends before a token that goes on with the part.
pub unique : {a : Part} {xs ys r q : List Token} {f g : List Item} → decides a ≡ true → xs ≡ ys → Derives a xs f r → Derives a ys g q → Same f g r q ⊎ ((at r (ons a) ≡ true) ⊎ (at q (ons a) ≡ true))
unique h e (derived.quoted x) (derived.quoted y) = inl (Same-token (sym e))
unique h e (derived.symbol {s = s} {rest = r} x i) (derived.symbol {rest = q} y j) =
    elim (unique (fits s).decided e x y) [ inl z ↦ inl (Same-symbol s i j z) | inr p ↦ inr (elim p [ inl k ↦ inl (on-symbol s r k) | inr k ↦ inr (on-symbol s q k) ]) ]
unique h e (derived.both {a = a} {b = b} {mid = m} {rest = r} x y i) (derived.both {mid = n} {rest = q} z w j) =
    elim (unique (both-first a b h) e x z) [
      | inl k ↦ elim (unique (both-second a b h) k.rests y w) [
        | inl l ↦ inl (Same-both k.items i j l)
        | inr p ↦ inr (elim p [ inl l ↦ inl (on-second a b r l) | inr l ↦ inr (on-second a b q l) ])
      ]
      | inr p ↦ inr (elim p [ inl l ↦ inl (after-first a b m r h l y) | inr l ↦ inr (after-first a b n q h l w) ])
    ]
unique h e (derived.left {a = a} {b = b} {rest = r} x) (derived.left {rest = q} y) =
    elim (unique (choice-first a b h) e x y) [ inl z ↦ inl z | inr p ↦ inr (elim p [ inl l ↦ inl (on-left a b r l) | inr l ↦ inr (on-left a b q l) ]) ]
unique h e (derived.left {a = a} {b = b} {ts = ts} {rest = r} x) (derived.right {ts = us} {rest = q} y) = inr (inr (one-none a b ts us r q h e x y))
unique h e (derived.right {a = a} {b = b} {ts = ts} {rest = r} x) (derived.left {ts = us} {rest = q} y) = inr (inl (one-none a b us ts q r h (sym e) y x))
unique h e (derived.right {a = a} {b = b} {rest = r} x) (derived.right {rest = q} y) =
    elim (unique (choice-second a b h) e x y) [ inl z ↦ inl z | inr p ↦ inr (elim p [ inl l ↦ inl (on-right a b r l) | inr l ↦ inr (on-right a b q l) ]) ]
unique h e derived.end derived.end = inl (same refl e)
unique h e (derived.end {a = a} {ts = ts}) (derived.more x y j) = inr (inl (on-start a ts (subst (λ z. at z (firsts a) ≡ true) (sym e) (derived-some (many-some a h) x).0)))
unique h e (derived.more {a = a} x y i) (derived.end {ts = ts}) = inr (inr (on-start a ts (subst (λ z. at z (firsts a) ≡ true) e (derived-some (many-some a h) x).0)))
unique h e (derived.more {a = a} {mid = m} {rest = r} x y i) (derived.more {mid = n} {rest = q} z w j) =
    elim (unique (many-one a h) e x z) [
      | inl k ↦ elim (unique h k.rests y w) [ inl l ↦ inl (Same-both k.items i j l) | inr p ↦ inr p ]
      | inr p ↦ inr (elim p [ inl l ↦ inl (after-more a m r h l y) | inr l ↦ inr (after-more a n q h l w) ])
    ]
unique h e derived.without derived.without = inl (same refl e)
unique h e (derived.without {a = a} {ts = ts}) (derived.with x) = inr (inl (on-start a ts (subst (λ z. at z (firsts a) ≡ true) (sym e) (derived-some (maybe-some a h) x).0)))
unique h e (derived.with {a = a} x) (derived.without {ts = ts}) = inr (inr (on-start a ts (subst (λ z. at z (firsts a) ≡ true) e (derived-some (maybe-some a h) x).0)))
unique h e (derived.with {a = a} {rest = r} x) (derived.with {rest = q} y) =
    elim (unique (maybe-one a h) e x y) [ inl z ↦ inl z | inr p ↦ inr (elim p [ inl l ↦ inl (on-more a r l) | inr l ↦ inr (on-more a q l) ]) ]
