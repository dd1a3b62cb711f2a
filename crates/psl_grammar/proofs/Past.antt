-- A reader that starts with a first token gets behind it.
use Rattle.std.proofs.Common.{◌≡◌, refl, sym, ◌∙◌, subst, ℕ, ◌≤◌, ◌<◌, Bool, true, false, not, ◌&&◌, ◌||◌, ◌⊎◌, inl, inr, List, ◌∷◌, length, arith}
use Rattle.psl_grammar.specs.Firsts.{at, is_empty, firsts, goes_left, before_bracket}
use Rattle.psl_grammar.specs.Parts.{Part, ◌//◌}
use Rattle.psl_grammar.specs.Reading.{State, Reads, Reads as reads, Stops, Stops as stops, Syntax}
use Rattle.psl_grammar.specs.Trees.{Token, Item}
use Rattle.psl_grammar.proofs.Choices.{both-first, both-second, choice-first, choice-second, choice-some, many-one, maybe-one, left-starts}
use Rattle.psl_grammar.proofs.Decided.{decides, fits}
use Rattle.psl_grammar.proofs.NextToken.{clash, and-left, and-right, decided, at-left, at-right, at-append, at-within, at-if, at-of_if}
use Rattle.psl_grammar.proofs.Readers.{read-starts, read-shrinks, stop-shrinks}

less-down : {k m n : ℕ} → k ≤ m → m < n → k < n
less-down h g = omega arith

one-behind : (ts rest : List Token) (t : Token) → ts ≡ t ∷ rest → length rest < length ts
one-behind ts rest t e = subst (λ x. length rest < length x) (sym e) (omega arith)

-- where the right side is taken, the next token can be the first of it
pub right-starts : (a b : Part) (ts : List Token) → goes_left a b ts ≡ false → at ts (firsts (a // b)) ≡ true → at ts (firsts b) ≡ true
right-starts a b ts h p = go (decided (at ts (firsts b))) (at-append ts (firsts a) (firsts b) p)
  where
    taken : (x y z : Bool) → x ≡ true → y ≡ false → x && not (y && z) ≡ true
    taken true false z e f = refl
    taken true true z e f = clash refl f
    taken false y z e f = clash e refl

    go : (at ts (firsts b) ≡ true) ⊎ (at ts (firsts b) ≡ false) → (at ts (firsts a) ≡ true) ⊎ (at ts (firsts b) ≡ true) → at ts (firsts b) ≡ true
    go (inl e) q = e
    go (inr e) (inr q) = q
    go (inr e) (inl q) = clash (taken (at ts (firsts a)) (at ts (firsts b)) (before_bracket ts) q e) h

pub takes-one : {a : Part} {from to : State} {f : List Item} → Reads a from f to → at from.tokens (firsts a) ≡ true → length to.tokens < length from.tokens
takes-one (reads.quoted {from = from} {to = to} {t = t} h) p = one-behind from.tokens to.tokens t h.front
takes-one (reads.symbol {s = s} {from = from} x e) p = takes-one x (at-within from.tokens _ _ (fits s).no_more p)
takes-one (reads.both {a = a} {b = b} {from = from} {mid = mid} {to = to} x y e) p =
    elim (at-append from.tokens (firsts a) _ p) [
      | inl q ↦ less-down (read-shrinks y) (takes-one x q)
      | inr q ↦ elim (read-starts x) [
        | inl g ↦ subst (λ z. length to.tokens < length z) (sym g.0) (takes-one y (subst (λ z. at z (firsts b) ≡ true) g.0 (at-of_if from.tokens (is_empty a) _ q).1))
        | inr g ↦ less-down (read-shrinks y) g.1
      ]
    ]
takes-one (reads.left {a = a} {b = b} {from = from} h x) p = takes-one x (left-starts a b from.tokens h.holds)
takes-one (reads.right {a = a} {b = b} {from = from} h x) p = takes-one x (right-starts a b from.tokens h.holds p)
takes-one (reads.end h) p = clash p h.holds
takes-one (reads.more h x y e) p = less-down (read-shrinks y) (takes-one x h.holds)
takes-one (reads.without h) p = clash p h.holds
takes-one (reads.with h x) p = takes-one x h.holds

-- a reader that stops where nothing is a list of the part has started
either-empty : (a b : Bool) → a || b ≡ true → a ≡ false → b ≡ true
either-empty true b h e = clash refl e
either-empty false b h e = h

stop-starts : {a : Part} {from stop : State} → decides a ≡ true → is_empty a ≡ true → Stops Syntax a from stop → at from.tokens (firsts a) ≡ true
stop-starts h e (stops.quoted g i) = clash e refl
stop-starts h e (stops.symbol {s = s} {from = from} x) = at-within from.tokens _ _ (fits s).begins (stop-starts (fits s).decided ((fits s).empty ∙ e) x)
stop-starts h e (stops.first {a = a} {b = b} {from = from} x) = at-left from.tokens (firsts a) _ (stop-starts (both-first a b h) (and-left (is_empty a) _ e) x)
stop-starts h e (stops.next {a = a} {b = b} {from = from} f x y) =
    elim (read-starts x) [
      | inl g ↦ at-right from.tokens (firsts a) _ (at-if from.tokens (is_empty a) _ g.1 (subst (λ z. at z (firsts b) ≡ true) (sym g.0) (stop-starts (both-second a b h) (and-right (is_empty a) _ e) y)))
      | inr g ↦ at-left from.tokens (firsts a) _ g.0
    ]
stop-starts h e (stops.left {a = a} {b = b} {from = from} g x) = at-left from.tokens (firsts a) _ (left-starts a b from.tokens g.holds)
stop-starts h e (stops.right {a = a} {b = b} {from = from} g x) =
    at-right from.tokens (firsts a) _ (stop-starts (choice-second a b h) (either-empty (is_empty a) _ e (choice-some a b h)) x)
stop-starts h e (stops.now g x) = g.holds
stop-starts h e (stops.later f g x y) = g.holds
stop-starts h e (stops.maybe g x) = g.holds

pub stop-past : {a : Part} {from stop : State} → decides a ≡ true → Stops Syntax a from stop → at from.tokens (firsts a) ≡ true → length stop.tokens < length from.tokens
stop-past h (stops.quoted g i) p = clash p g
stop-past h (stops.symbol {s = s} {from = from} x) p = stop-past (fits s).decided x (at-within from.tokens _ _ (fits s).no_more p)
stop-past h (stops.first {a = a} {b = b} {from = from} x) p =
    elim (at-append from.tokens (firsts a) _ p) [
      | inl q ↦ stop-past (both-first a b h) x q
      | inr q ↦ stop-past (both-first a b h) x (stop-starts (both-first a b h) (at-of_if from.tokens (is_empty a) _ q).0 x)
    ]
stop-past h (stops.next {a = a} {b = b} {from = from} {mid = mid} {stop = stop} f x y) p =
    elim (at-append from.tokens (firsts a) _ p) [
      | inl q ↦ less-down (stop-shrinks y) (takes-one x q)
      | inr q ↦ elim (read-starts x) [
        | inl g ↦ subst (λ z. length stop.tokens < length z) (sym g.0) (stop-past (both-second a b h) y (subst (λ z. at z (firsts b) ≡ true) g.0 (at-of_if from.tokens (is_empty a) _ q).1))
        | inr g ↦ less-down (stop-shrinks y) g.1
      ]
    ]
stop-past h (stops.left {a = a} {b = b} {from = from} g x) p = stop-past (choice-first a b h) x (left-starts a b from.tokens g.holds)
stop-past h (stops.right {a = a} {b = b} {from = from} g x) p = stop-past (choice-second a b h) x (right-starts a b from.tokens g.holds p)
stop-past h (stops.now {a = a} g x) p = stop-past (many-one a h) x g.holds
stop-past h (stops.later f g x y) p = less-down (stop-shrinks y) (takes-one x g.holds)
stop-past h (stops.maybe {a = a} g x) p = stop-past (maybe-one a h) x g.holds
