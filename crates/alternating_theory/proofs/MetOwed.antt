-- Laws of what meets a positive combination, told of the obligations that it owes.
use Rattle.std.proofs.Common.{◌≡◌, refl, sym, ℕ, Bool as Truth, false, inl, inr}
use Rattle.std.specs.Prelude.{IsTrue, ◌||◌}
use Rattle.std.proofs.lemmas.Bool.{both_ways, or_cases, or_left, or_right, or_parts, and_parts, and_cases, and_from, eq-eqb, false_from_ne_true}
use Rattle.psl_tree.specs.declared.letter.Letter.{Letter}
use Rattle.alternating_theory.specs.Positive.{Positive, Const, Holds, Owed, And, Or, met, owes, renumbered}
use Rattle.alternating_theory.proofs.Reached.{same-number}

-- what is met stays met where more is true of what is owed
pub met-grows : (p : Positive) (x : Letter) (f g : ℕ → Truth) → ((q : ℕ) → IsTrue (owes p q) → IsTrue (f q) → IsTrue (g q)) → IsTrue (met p x f) → IsTrue (met p x g)
met-grows (Const v) x f g e h = h
met-grows (Holds b) x f g e h = h
met-grows (Owed q) x f g e h = e q (eq-eqb q q refl) h
met-grows (And p r) x f g e h =
    let parts = and_parts (met p x f) (met r x f) h in
    and_from (met p x g) (met r x g) (met-grows p x f g (λ q k. e q (or_left (owes p q) (owes r q) k)) parts.0)
    (met-grows r x f g (λ q k. e q (or_right (owes p q) (owes r q) k)) parts.1)
met-grows (Or p r) x f g e h = elim (or_cases (met p x f) (met r x f) h) [
  | inl k ↦ or_left (met p x g) (met r x g) (met-grows p x f g (λ q l. e q (or_left (owes p q) (owes r q) l)) k)
  | inr k ↦ or_right (met p x g) (met r x g) (met-grows r x f g (λ q l. e q (or_right (owes p q) (owes r q) l)) k)
]

-- and what is not met stays so where less is
pub met-shrinks : (p : Positive) (x : Letter) (f g : ℕ → Truth) → ((q : ℕ) → IsTrue (owes p q) → IsTrue (f q) → IsTrue (g q)) → met p x g ≡ false → met p x f ≡ false
met-shrinks p x f g e h = false_from_ne_true (met p x f) (λ k. both_ways (met p x g) h (met-grows p x f g e k))

-- where one set meets it and another does not, something owed lies between them
pub met-gap : (p : Positive) (x : Letter) (f g : ℕ → Truth) → IsTrue (met p x f) → met p x g ≡ false → (q : ℕ) × IsTrue (owes p q) × IsTrue (f q) × (g q ≡ false)
met-gap (Const v) x f g h n = absurd (both_ways v n h)
met-gap (Holds b) x f g h n = absurd (both_ways _ n h)
met-gap (Owed q) x f g h n = (q, eq-eqb q q refl, h, n)
met-gap (And p r) x f g h n =
    let parts = and_parts (met p x f) (met r x f) h in
    elim (and_cases (met p x g) (met r x g) n) as (λ _. (q : ℕ) × IsTrue (owes p q || owes r q) × IsTrue (f q) × (g q ≡ false)) [
      | inl k ↦ (let u = met-gap p x f g parts.0 k in (u.0, or_left (owes p u.0) (owes r u.0) u.1, u.2, u.3))
      | inr k ↦ (let u = met-gap r x f g parts.1 k in (u.0, or_right (owes p u.0) (owes r u.0) u.1, u.2, u.3))
    ]
met-gap (Or p r) x f g h n =
    let parts = or_parts (met p x g) (met r x g) n in
    elim (or_cases (met p x f) (met r x f) h) as (λ _. (q : ℕ) × IsTrue (owes p q || owes r q) × IsTrue (f q) × (g q ≡ false)) [
      | inl k ↦ (let u = met-gap p x f g k parts.0 in (u.0, or_left (owes p u.0) (owes r u.0) u.1, u.2, u.3))
      | inr k ↦ (let u = met-gap r x f g k parts.1 in (u.0, or_right (owes p u.0) (owes r u.0) u.1, u.2, u.3))
    ]

-- with other numbers, what is owed has a new number
pub owed-renumbered : (new : ℕ → ℕ) (p : Positive) (r : ℕ) → IsTrue (owes (renumbered new p) r) → (q : ℕ) × IsTrue (owes p q) × (r ≡ new q)
owed-renumbered new (Const v) r h = absurd (both_ways false refl h)
owed-renumbered new (Holds b) r h = absurd (both_ways false refl h)
owed-renumbered new (Owed q) r h = (q, eq-eqb q q refl, sym (same-number (new q) r h))
owed-renumbered new (And p s) r h =
    elim (or_cases (owes (renumbered new p) r) (owes (renumbered new s) r) h) as (λ _. (q : ℕ) × IsTrue (owes p q || owes s q) × (r ≡ new q)) [
      | inl k ↦ (let u = owed-renumbered new p r k in (u.0, or_left (owes p u.0) (owes s u.0) u.1, u.2))
      | inr k ↦ (let u = owed-renumbered new s r k in (u.0, or_right (owes p u.0) (owes s u.0) u.1, u.2))
    ]
owed-renumbered new (Or p s) r h =
    elim (or_cases (owes (renumbered new p) r) (owes (renumbered new s) r) h) as (λ _. (q : ℕ) × IsTrue (owes p q || owes s q) × (r ≡ new q)) [
      | inl k ↦ (let u = owed-renumbered new p r k in (u.0, or_left (owes p u.0) (owes s u.0) u.1, u.2))
      | inr k ↦ (let u = owed-renumbered new s r k in (u.0, or_right (owes p u.0) (owes s u.0) u.1, u.2))
    ]
