use Rattle.std.proofs.Common.{◌≡◌, take}
use Rattle.std.specs.Prelude.{map}
use Rattle.prover.proofs.raising.raised.Given as goal
use Rattle.prover.specs.Raised.{raised_state}

abbrev pub invariant-loop-state : goal.invariant-loop-state
invariant-loop-state l = l.states ≡ map raised_state (take l.state-index l.fn.path.states)
