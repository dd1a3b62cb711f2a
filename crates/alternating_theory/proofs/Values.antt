-- Obligations that fit their place among others, and their values under numberings that agree.
use Rattle.std.proofs.Common.{◌≡◌, refl, ap, ◌∙◌, subst, ℕ, zero, suc, ◌+◌, ◌-◌, ◌≤◌, ◌<◌, Bool as Truth, List, [], ◌∷◌, ◌++◌, length, map, arith}
use Rattle.std.specs.Prelude.{IsTrue}
use Rattle.psl_tree.specs.Followed.{Past}
use Rattle.psl_tree.specs.declared.letter.Letter.{Letter}
use Rattle.psl_tree.specs.declared.letter.Letter.TheVariants.{Top, Bottom}
use Rattle.alternating_theory.specs.Obligations.{Obligation, obligation_at, numbered, value_past, value_of}
use Rattle.alternating_theory.specs.Positive.{met, OwesWithin}
use Rattle.alternating_theory.proofs.MetLaws.{met-same, met-more, met-top, within-wider}

-- the obligation owes numbers of a range, and its values on Top for ever and on Bottom for ever are
-- those that its delta gives there
pub record Right (look : ℕ → Obligation) (low high : ℕ) (o : Obligation) : Type 0 where
  pub within : OwesWithin low high o.delta
  pub at_top : met o.delta Top (λ q. (look q).top) ≡ o.top
  pub at_bottom : met o.delta Bottom (λ q. (look q).bottom) ≡ o.bottom
  pub order : IsTrue o.bottom → IsTrue o.top

abbrev pub EachRight : (ℕ → Obligation) → ℕ → ℕ → List Obligation → Type 0
EachRight look low high [] = Unit {0}
EachRight look low high (o ∷ os) = Right look low high o × EachRight look low high os

-- from the numbers of a range only numbers of the range are owed
abbrev pub IsClosed : ℕ → ℕ → (ℕ → Obligation) → Type 0
IsClosed low high look = (q : ℕ) → low ≤ q → q < high → OwesWithin low high (look q).delta

pub right-at : (look : ℕ → Obligation) (low high : ℕ) (os : List Obligation) → EachRight look low high os → (k : ℕ) → k < length os → Right look low high (obligation_at os k)
right-at look low high [] r k h = absurd (omega arith)
right-at look low high (o ∷ os) r zero h = r.0
right-at look low high (o ∷ os) r (suc k) h = right-at look low high os r.1 k (omega arith)

pub right-numbered : (look : ℕ → Obligation) (offset high : ℕ) (os : List Obligation) → EachRight look offset high os → (q : ℕ) → offset ≤ q → q < offset + length os
    → Right look offset high (numbered offset os q)
right-numbered look offset high os r q l h = right-at look offset high os r (q - offset) (omega arith)

pub closed : (look : ℕ → Obligation) (offset : ℕ) (os : List Obligation) → EachRight look offset (offset + length os) os → IsClosed offset (offset + length os) (numbered offset os)
closed look offset os r q l h = (right-numbered look offset (offset + length os) os r q l h).within

pub each-append : (look : ℕ → Obligation) (low high : ℕ) (os ps : List Obligation) → EachRight look low high os → EachRight look low high ps → EachRight look low high (os ++ ps)
each-append look low high [] ps r s = s
each-append look low high (o ∷ os) ps r s = (r.0, each-append look low high os ps r.1 s)

-- under a wider numbering that agrees
pub right-wider : (look look' : ℕ → Obligation) (low high low' high' : ℕ) → low' ≤ low → high ≤ high' → ((q : ℕ) → low ≤ q → q < high → look' q ≡ look q)
    → (o : Obligation) → Right look low high o → Right look' low' high' o
right-wider look look' low high low' high' l h same o r = record {
  within = within-wider low high low' high' l h o.delta r.within;
  at_top = met-same low high o.delta r.within Top (λ q. (look' q).top) (λ q. (look q).top) (λ q a b. ap (λ (k : Obligation). k.top) (same q a b)) ∙ r.at_top;
  at_bottom = met-same low high o.delta r.within Bottom (λ q. (look' q).bottom) (λ q. (look q).bottom) (λ q a b. ap (λ (k : Obligation). k.bottom) (same q a b)) ∙ r.at_bottom;
  order = r.order;
}

pub each-wider : (look look' : ℕ → Obligation) (low high low' high' : ℕ) → low' ≤ low → high ≤ high' → ((q : ℕ) → low ≤ q → q < high → look' q ≡ look q)
    → (os : List Obligation) → EachRight look low high os → EachRight look' low' high' os
each-wider look look' low high low' high' l h same [] r = tt
each-wider look look' low high low' high' l h same (o ∷ os) r =
    (right-wider look look' low high low' high' l h same o r.0, each-wider look look' low high low' high' l h same os r.1)

-- numbers in lists that are joined and mapped

pub at-left : (os ps : List Obligation) (k : ℕ) → k < length os → obligation_at (os ++ ps) k ≡ obligation_at os k
at-left [] ps k h = absurd (omega arith)
at-left (o ∷ os) ps zero h = refl
at-left (o ∷ os) ps (suc k) h = at-left os ps k (omega arith)

pub at-right : (os ps : List Obligation) (j k : ℕ) → k ≡ length os + j → obligation_at (os ++ ps) k ≡ obligation_at ps j
at-right [] ps j k e = ap (λ n. obligation_at ps n) (omega arith)
at-right (o ∷ os) ps j zero e = absurd (omega arith)
at-right (o ∷ os) ps j (suc k) e = at-right os ps j k (omega arith)

pub at-map : (f : Obligation → Obligation) (os : List Obligation) (k : ℕ) → k < length os → obligation_at (map f os) k ≡ f (obligation_at os k)
at-map f [] k h = absurd (omega arith)
at-map f (o ∷ os) zero h = refl
at-map f (o ∷ os) (suc k) h = at-map f os k (omega arith)

pub in-front : (offset : ℕ) (os ps : List Obligation) (q : ℕ) → offset ≤ q → q < offset + length os → numbered offset (os ++ ps) q ≡ numbered offset os q
in-front offset os ps q l h = at-left os ps (q - offset) (omega arith)

pub in-back : (offset : ℕ) (os ps : List Obligation) (q : ℕ) → offset + length os ≤ q → numbered offset (os ++ ps) q ≡ numbered (offset + length os) ps q
in-back offset os ps q l = at-right os ps (q - (offset + length os)) (q - offset) (omega arith)

pub in-map : (f : Obligation → Obligation) (offset : ℕ) (os : List Obligation) (q : ℕ) → offset ≤ q → q < offset + length os
    → numbered offset (map f os) q ≡ f (numbered offset os q)
in-map f offset os q l h = at-map f os (q - offset) (omega arith)

-- the same values under numberings that agree

pub agree : (low high : ℕ) (look look' : ℕ → Obligation) → IsClosed low high look → ((q : ℕ) → low ≤ q → q < high → look' q ≡ look q)
    → (p : Past) (o : Obligation) → OwesWithin low high o.delta → (xs : List Letter) → value_of look' p o xs ≡ value_of look p o xs
agree low high look look' shut same p o w [] = refl
agree low high look look' shut same p o w (x ∷ xs) =
    met-same low high o.delta w x (λ q. value_of look' p (look' q) xs) (λ q. value_of look p (look q) xs)
    (λ q l h. ap (λ (k : Obligation). value_of look' p k xs) (same q l h) ∙ agree low high look look' shut same p (look q) (shut q l h) xs)

-- a value is at most that on Top for ever, where this is so past the letters
pub below-top : (low high : ℕ) (look : ℕ → Obligation) (p : Past) → ((q : ℕ) → low ≤ q → q < high → Right look low high (look q))
    → ((q : ℕ) → low ≤ q → q < high → IsTrue (value_past p (look q)) → IsTrue (look q).top)
    → (o : Obligation) → Right look low high o → (IsTrue (value_past p o) → IsTrue o.top)
    → (xs : List Letter) → IsTrue (value_of look p o xs) → IsTrue o.top
below-top low high look p rights past o r e [] h = e h
below-top low high look p rights past o r e (x ∷ xs) h =
    subst (λ (t : Truth). IsTrue t) r.at_top
    (met-more low high o.delta r.within Top (λ q. value_of look p (look q) xs) (λ q. (look q).top)
    (λ q a b k. below-top low high look p rights past (look q) (rights q a b) (past q a b) xs k)
    (met-top o.delta x (λ q. value_of look p (look q) xs) h))
