-- How many of the first numbers are in a cone.
use Rattle.std.proofs.Common.{◌≡◌, ℕ, zero, suc, ◌+◌, ◌<◌, ◌≤◌, Bool, true, false, ◌⊎◌, refl, sym, ap, ◌∙◌, inl, inr, arith}
use Rattle.std.specs.Bool.{IsTrue}
use Rattle.std.proofs.lemmas.Bool.{cases_Bool, cases_order, false≢true}
use Rattle.gates_frames.specs.Frames.{Cone}
use Rattle.gates_cone.specs.Cones.{IsIn}

unit : Bool → ℕ
unit false = 0
unit true = 1

pub count : Cone → ℕ → ℕ
count cone zero = 0
count cone (suc n) = count cone n + unit (cone n)

unit-true : (a : Bool) → a ≡ true → unit a ≡ 1
unfolding unit
unit-true a is = ap unit is

unit-false : (a : Bool) → a ≡ false → unit a ≡ 0
unfolding unit
unit-false a is = ap unit is

one-more : (a b : Bool) → (IsTrue a → IsTrue b) → unit a ≤ unit b
unfolding unit
one-more false b inside = omega arith
one-more true b inside = omega (arith, unit-true b (inside refl))

few : (a : Bool) → unit a ≤ 1
unfolding unit
few false = omega arith
few true = omega arith

pub count-in : (cone other : Cone) (n : ℕ) → IsIn cone other → count cone n ≤ count other n
unfolding count
count-in cone other zero inside = omega arith
count-in cone other (suc n) inside = omega (arith, count-in cone other n inside, one-more (cone n) (other n) (inside n))

pub count-most : (cone : Cone) (n : ℕ) → count cone n ≤ n
unfolding count
count-most cone zero = omega arith
count-most cone (suc n) = omega (arith, count-most cone n, few (cone n))

-- one that is new counts
pub count-new : (cone other : Cone) (n s : ℕ) → IsIn cone other → s < n → cone s ≡ false → other s ≡ true → count cone n < count other n
unfolding count
count-new cone other zero s inside below old new = absurd (omega arith)
count-new cone other (suc n) s inside below old new = elim (cases_order s n) [
  | inl e ↦ omega (arith, count-in cone other n inside, unit-false (cone n) (ap cone (sym e) ∙ old), unit-true (other n) (ap other (sym e) ∙ new))
  | inr (inl lt) ↦ omega (arith, count-new cone other n s inside lt old new, one-more (cone n) (other n) (inside n))
  | inr (inr gt) ↦ absurd (omega arith)
]

below-or-last : (n : ℕ) (cone : Cone) → IsTrue (cone n) → ((s : ℕ) → s < n → IsTrue (cone s)) → (s : ℕ) → s < suc n → IsTrue (cone s)
below-or-last n cone last before s below = elim (cases_order s n) [
  | inl e ↦ ap cone e ∙ last
  | inr (inl lt) ↦ before s lt
  | inr (inr gt) ↦ absurd (omega arith)
]

-- where all are counted, all are in
pub count-all : (cone : Cone) (n s : ℕ) → n ≤ count cone n → s < n → IsTrue (cone s)
unfolding count
count-all cone zero s all below = absurd (omega arith)
count-all cone (suc n) s all below = elim (cases_Bool (cone n)) [
  | inl is ↦ below-or-last n cone is (λ t lt. count-all cone n t (omega (arith, few (cone n))) lt) s below
  | inr fails ↦ absurd (omega (arith, unit-false (cone n) fails, count-most cone n))
]

-- below a bound a cone is in another, or some number shows that it is not
pub record IsNew (cone other : Cone) (n : ℕ) : Type 0 where
  pub number : ℕ
  pub below : number < n
  pub old : cone number ≡ false
  pub new : other number ≡ true

abbrev IsBelow : Cone → Cone → ℕ → Type 0
IsBelow cone other n = (s : ℕ) → s < n → IsTrue (other s) → IsTrue (cone s)

one-below : (cone other : Cone) (n : ℕ) → IsBelow cone other n → (IsTrue (other n) → IsTrue (cone n)) → IsBelow cone other (suc n)
one-below cone other n before last s below is = elim (cases_order s n) [
  | inl e ↦ ap cone e ∙ last (ap other (sym e) ∙ is)
  | inr (inl lt) ↦ before s lt is
  | inr (inr gt) ↦ absurd (omega arith)
]

one-or-new : (cone other : Cone) (n : ℕ) → IsBelow cone other n → IsBelow cone other (suc n) ⊎ IsNew cone other (suc n)
one-or-new cone other n before = elim (cases_Bool (cone n)) [
  | inl here ↦ inl (one-below cone other n before (λ is. here))
  | inr old ↦ elim (cases_Bool (other n)) [
    | inl new ↦ inr (record { number = n; below = omega arith; old = old; new = new })
    | inr none ↦ inl (one-below cone other n before (λ is. absurd (false≢true (sym none ∙ is))))
  ]
]

pub in-or-new : (cone other : Cone) (n : ℕ) → IsBelow cone other n ⊎ IsNew cone other n
in-or-new cone other zero = inl (λ s below is. absurd (omega arith))
in-or-new cone other (suc n) = elim (in-or-new cone other n) [
  | inl all ↦ one-or-new cone other n all
  | inr new ↦ inr (record { number = new.number; below = omega (arith, new.below); old = new.old; new = new.new })
]
