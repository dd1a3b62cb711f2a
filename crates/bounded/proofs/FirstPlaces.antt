-- The place with which a loop begins, as it is read from a model.
use Rattle.std.specs.Prelude.{if◌then◌else◌}
use Rattle.std.proofs.Common.{◌≡◌, ◌∙◌, ℕ, zero, suc, ◌+◌, ◌-◌, ◌*◌, ◌<◌, Bool, true, false, List, get_or, refl, ap, arith}
use Rattle.alternating_theory.specs.Obligations.{Automaton}
use Rattle.bounded_theory.specs.Found.{first_passing}
use Rattle.clauses.specs.Models.{is_true}
use Rattle.run_terms.specs.Formulas.{values_of}
use Rattle.bounded.specs.Places.{begins_at, place_bits}

-- the first place that passes a test, where none before it does
pub first-here : (bound place : ℕ) (test : ℕ → Bool) → place < bound → ((k : ℕ) → k < place → test k ≡ false) → test place ≡ true → first_passing bound test ≡ place
first-here zero place test below none here = absurd (omega arith)
first-here (suc bound) zero test below none here = rw here refl
first-here (suc bound) (suc place) test below none here =
    rw (none 0 (omega arith)) (ap suc (first-here bound place (λ k. test (suc k)) (omega arith) (λ k low. none (suc k) (omega arith)) here))

pub first-none : (bound : ℕ) (test : ℕ → Bool) → ((k : ℕ) → k < bound → test k ≡ false) → first_passing bound test ≡ bound
first-none zero test none = refl
first-none (suc bound) test none = rw (none 0 (omega arith)) (ap suc (first-none bound (λ k. test (suc k)) (λ k low. none (suc k) (omega arith))))

-- tests that are equal have one first place
pub first-same : (bound : ℕ) (test other : ℕ → Bool) → ((k : ℕ) → test k ≡ other k) → first_passing bound test ≡ first_passing bound other
first-same zero test other same = refl
first-same (suc bound) test other same =
    let rest = first-same bound (λ k. test (suc k)) (λ k. other (suc k)) (λ k. same (suc k)) in
    ap (λ b. if b then 0 else suc (first_passing bound (λ k. test (suc k)))) (same 0) ∙ ap (λ k. if other 0 then 0 else suc k) rest

pub begins-read : (a : Automaton) (n before place : ℕ) (values : List Bool) → get_or values (before + suc (suc n) * place_bits a + place) false ≡ is_true (values_of values) (begins_at a n before place)
begins-read a n before place values = let e : before + suc (suc n) * place_bits a + place ≡ suc (before + suc (suc n) * place_bits a + place) - 1 = omega arith in ap (λ k. get_or values k false) e
