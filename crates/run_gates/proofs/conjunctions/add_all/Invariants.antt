use Rattle.std.proofs.Common.{drop, map, true}
use Rattle.gates_theory.specs.Terms.{with_conjunction}
use Rattle.gates_theory.specs.Terms.Term.{Literal, Conjunction}
use Rattle.run_terms.specs.Booleans.{constant}
use Rattle.run_gates.proofs.Folds.{JoinedSoFar}
use Rattle.run_gates.proofs.conjunctions.add_all.Given as goal

abbrev pub invariant-loop-i : goal.invariant-loop-i
invariant-loop-i l = record {
  so_far : JoinedSoFar Conjunction with_conjunction (constant true) l.initial.gates l.gates l.found (map Literal (drop l.i l.literals)) (map Literal l.literals);
}
