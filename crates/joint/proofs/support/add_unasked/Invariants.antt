use Rattle.std.proofs.Common.{take, Ok}
use Rattle.gates_theory.specs.Terms.Term.{Literal}
use Rattle.run_gates.specs.Building.{Builds}
use Rattle.joint.specs.Guards.{asker_bit}
use Rattle.joint_theory.specs.Relation.{unasked}
use Rattle.joint.proofs.support.add_unasked.Given as goal

abbrev pub invariant-loop-i : goal.invariant-loop-i
invariant-loop-i l = record {
  so_far : Builds l.initial.gates l.gates (unasked l.product.netlist.now l.product.violation.now
      (asker_bit l.product.netlist.now l.product.violation.now l.pending) l.number (Literal l.first) (take l.i l.askers)) (Ok l.all);
}
