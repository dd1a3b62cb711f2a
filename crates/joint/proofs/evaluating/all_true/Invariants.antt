use Rattle.std.proofs.Common.{take}
use Rattle.std.specs.Prelude.{IsTrue}
use Rattle.std.specs.List.{list_all}
use Rattle.clauses.specs.Models.{is_true}
use Rattle.run_terms.specs.Formulas.{values_of}
use Rattle.joint.proofs.evaluating.all_true.Given as goal

abbrev pub invariant-loop-literal : goal.invariant-loop-literal
invariant-loop-literal l = IsTrue (list_all (is_true (values_of l.values)) (take l.literal-index l.literals))
