-- A reader takes no token that passes a limit.
use Rattle.std.proofs.Common.{◌≡◌, ◌≢◌, refl, sym, ◌∙◌, ap, subst, ℕ, suc, ◌≤◌, ◌<◌, ◌⊎◌, inl, inr, List, ◌∷◌, length, arith}
use Rattle.psl_grammar.specs.Parts.{Part}
use Rattle.psl_grammar.specs.Reading.{State, Reads, Reads as reads, Stops, Stops as stops, Syntax, Limit}
use Rattle.psl_grammar.specs.Trees.{Token, Item}
use Rattle.psl_grammar.proofs.Readers.{read-limit}

-- each of the tokens between has its number of tokens behind it: none of them is the limit's
pub Below : State → State → Type 0
Below from stop = (n : ℕ) → length stop.tokens ≤ n → n < length from.tokens → n ≢ from.limit

low-or-high : (n m : ℕ) → (n < m) ⊎ (m ≤ n)
low-or-high n m = grind arith

below-token : (t : Token) (from to : State) → from.tokens ≡ t ∷ to.tokens → length to.tokens ≢ from.limit → Below from to
unfolding Below
below-token t from to e h n l u = λ i. h (between (subst (λ z. n < length z) e u) ∙ i)
  where
    between : n < suc (length to.tokens) → length to.tokens ≡ n
    between top = omega arith

below-both : (from mid stop : State) → mid.limit ≡ from.limit → Below from mid → Below mid stop → Below from stop
unfolding Below
below-both from mid stop e h g n l u = go (low-or-high n (length mid.tokens))
  where
    go : (n < length mid.tokens) ⊎ (length mid.tokens ≤ n) → n ≢ from.limit
    go (inl i) = λ j. g n l i (j ∙ sym e)
    go (inr i) = h n i u

below-none : (from : State) → Below from from
unfolding Below
below-none from n l u = absurd (none l u)
  where
    none : length from.tokens ≤ n → n < length from.tokens → ⊥
    none h g = omega arith

pub read-below : {a : Part} {from to : State} {f : List Item} → Reads a from f to → Below from to
read-below (reads.quoted {from = from} {to = to} {t = t} h) = below-token t from to h.front h.below
read-below (reads.symbol x e) = read-below x
read-below (reads.both {from = from} {mid = mid} {to = to} x y e) = below-both from mid to (read-limit x) (read-below x) (read-below y)
read-below (reads.left h x) = read-below x
read-below (reads.right h x) = read-below x
read-below (reads.end {from = from} h) = below-none from
read-below (reads.more {from = from} {mid = mid} {to = to} h x y e) = below-both from mid to (read-limit x) (read-below x) (read-below y)
read-below (reads.without {from = from} h) = below-none from
read-below (reads.with h x) = read-below x

pub stop-below : {a : Part} {from stop : State} → Stops Syntax a from stop → Below from stop
stop-below (stops.quoted {from = from} h e) = subst (λ z. Below from z) e (below-none from)
stop-below (stops.symbol x) = stop-below x
stop-below (stops.first x) = stop-below x
stop-below (stops.next {from = from} {mid = mid} {stop = stop} f x y) = below-both from mid stop (read-limit x) (read-below x) (stop-below y)
stop-below (stops.left h x) = stop-below x
stop-below (stops.right h x) = stop-below x
stop-below (stops.now h x) = stop-below x
stop-below (stops.later {from = from} {mid = mid} {stop = stop} f h x y) = below-both from mid stop (read-limit x) (read-below x) (stop-below y)
stop-below (stops.maybe h x) = stop-below x

-- where the limit's token was there, it still is
pub limit-left : (from stop : State) → Below from stop → from.limit < length from.tokens → from.limit < length stop.tokens
unfolding Below
limit-left from stop h l = go (low-or-high from.limit (length stop.tokens))
  where
    go : (from.limit < length stop.tokens) ⊎ (length stop.tokens ≤ from.limit) → from.limit < length stop.tokens
    go (inl i) = i
    go (inr i) = absurd (h from.limit i l refl)

pub limit-behind : (from stop : State) → Below from stop → length stop.tokens ≡ 0 → length from.tokens ≤ from.limit
limit-behind from stop h e = go (low-or-high from.limit (length from.tokens))
  where
    none : from.limit < length stop.tokens → ⊥
    none i = omega arith

    go : (from.limit < length from.tokens) ⊎ (length from.tokens ≤ from.limit) → length from.tokens ≤ from.limit
    go (inl i) = absurd (none (limit-left from stop h i))
    go (inr i) = i

-- a limit's place stays up to where a reader stops for it
pub stop-limit : {a : Part} {from stop : State} → Stops Limit a from stop → stop.limit ≡ from.limit
stop-limit (stops.passed h) = ap (λ x. x.limit) h.stays
stop-limit (stops.symbol x) = stop-limit x
stop-limit (stops.first x) = stop-limit x
stop-limit (stops.next f x y) = stop-limit y ∙ read-limit x
stop-limit (stops.left h x) = stop-limit x
stop-limit (stops.right h x) = stop-limit x
stop-limit (stops.now h x) = stop-limit x
stop-limit (stops.later f h x y) = stop-limit y ∙ read-limit x
stop-limit (stops.maybe h x) = stop-limit x
