use Rattle.std.proofs.Common.{◌≡◌, ℕ, ◌<◌}
use Rattle.std.specs.Prelude.{slice_get, IsTrue}
use Rattle.prover_open.proofs.judging.is_new.Given as goal

abbrev pub invariant-loop-place : goal.invariant-loop-place
invariant-loop-place l = IsTrue l.new → (k : ℕ) → k < l.place → slice_get l.states k ≡ slice_get l.states l.later → ⊥
