use Rattle.std.proofs.Common.{◌-◌, map}
use Rattle.std.specs.List.{range_with_len}
use Rattle.run_gates.proofs.Terms.{HeldSoFar}
use Rattle.joint.proofs.each.add_each.Given as goal

abbrev pub invariant-loop-number : goal.invariant-loop-number
invariant-loop-number g l = record {
  so_far : HeldSoFar l.initial.gates l.gates l.initial.held l.held
      (map (g.A.Asking.term l.fn.asking) (range_with_len l.number (l.fn.count - l.number)))
      (map (g.A.Asking.term l.fn.asking) (range_with_len 0 l.fn.count));
}
