use Rattle.std.proofs.Common.{flat_map, Ok}
use Rattle.std.specs.List.{range_with_len}
use Rattle.run_gates.specs.Building.{BuildsAll}
use Rattle.joint.proofs.keeping.add_all_kept.Given as goal

abbrev pub invariant-loop-number : goal.invariant-loop-number
invariant-loop-number g l = record {
  so_far : BuildsAll l.initial.gates l.gates l.initial.held l.held (flat_map (g.K.Keeping.terms l.fn.keeping) (range_with_len 0 l.number)) (Ok tt);
}
