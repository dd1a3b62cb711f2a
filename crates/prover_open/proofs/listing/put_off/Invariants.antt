use Rattle.std.proofs.Common.{◌≡◌, take}
use Rattle.joint_theory.specs.States.{not_accepting}
use Rattle.prover_open.proofs.listing.put_off.Given as goal

abbrev pub invariant-loop-number : goal.invariant-loop-number
invariant-loop-number l = l.found ≡ not_accepting l.automaton (take l.number-index l.numbers)
