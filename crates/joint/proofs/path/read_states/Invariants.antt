use Rattle.std.proofs.Common.{◌≡◌}
use Rattle.joint_theory.specs.Queries.{path_in}
use Rattle.run_terms.specs.Formulas.{values_of}
use Rattle.joint.proofs.path.read_states.Given as goal

abbrev pub invariant-loop-position : goal.invariant-loop-position
invariant-loop-position l = l.states ≡ (path_in l.fn.product.netlist.now l.fn.product.violation.now l.fn.product.visits l.position (values_of l.values)).states
