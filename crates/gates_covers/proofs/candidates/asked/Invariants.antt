use Rattle.std.proofs.Common.{◌≡◌, count_by, take}
use Rattle.gates_covers.specs.Greedy.{asks}
use Rattle.gates_covers.proofs.candidates.asked.Given as goal

abbrev pub invariant-loop-mark : goal.invariant-loop-mark
invariant-loop-mark l = l.count ≡ count_by asks (take l.mark-index l.row)
