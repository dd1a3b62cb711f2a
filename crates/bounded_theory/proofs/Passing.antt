-- The first number that passes a test, where one does.
use Rattle.std.proofs.Common.{◌≡◌, inl, inr, ℕ, zero, suc, ◌<◌, Bool, true, false, arith}
use Rattle.std.specs.Bool.{IsTrue}
use Rattle.std.proofs.lemmas.Bool.{cases_Bool}
use Rattle.bounded_theory.specs.Found.{first_passing}

abbrev FirstPasses : ℕ → (ℕ → Bool) → Type 0
FirstPasses bound test = (first_passing bound test < bound) × IsTrue (test (first_passing bound test))

at_first : (bound : ℕ) (test : ℕ → Bool) → test 0 ≡ true → FirstPasses (suc bound) test
at_first bound test here = rw here (omega arith, here)

at_later : (bound : ℕ) (test : ℕ → Bool) → test 0 ≡ false → FirstPasses bound (λ number. test (suc number)) → FirstPasses (suc bound) test
at_later bound test missing rest = rw missing (omega (arith, rest.0), rest.1)

pub first-passes : (bound : ℕ) (test : ℕ → Bool) (place : ℕ) → place < bound → IsTrue (test place) → FirstPasses bound test
first-passes zero test place below passes = absurd (omega arith)
first-passes (suc bound) test zero below passes = at_first bound test passes
first-passes (suc bound) test (suc place) below passes = elim (cases_Bool (test 0)) [
  | inl here ↦ at_first bound test here
  | inr missing ↦ at_later bound test missing (first-passes bound (λ number. test (suc number)) place (omega arith) passes)
]
