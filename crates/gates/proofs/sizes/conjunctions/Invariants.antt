use Rattle.std.proofs.Common.{◌≡◌, take}
use Rattle.std.specs.List.{count_by}
use Rattle.gates_theory.specs.Sizes.{is_conjunction}
use Rattle.gates.proofs.sizes.conjunctions.Given as goal

abbrev pub invariant-loop-gate : goal.invariant-loop-gate
invariant-loop-gate l = l.count ≡ count_by is_conjunction (take l.gate-index l.gates)
