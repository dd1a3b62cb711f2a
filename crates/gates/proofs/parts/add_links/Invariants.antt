use Rattle.std.proofs.Common.{drop, IsTrue}
use Rattle.clauses.specs.Literals.{clause_within}
use Rattle.gates_theory.specs.Unrolled.{links}
use Rattle.gates.proofs.Additions.{AddsSoFar}
use Rattle.gates.proofs.parts.add_links.Given as goal

abbrev pub invariant-loop-i : goal.invariant-loop-i
invariant-loop-i l = record {
  so_far : AddsSoFar l.initial.clauses l.clauses (links l.base l.base_before (drop l.i l.literals) (drop l.i l.others)) (links l.base l.base_before l.literals l.others);
  within : IsTrue (clause_within l.variables (drop l.i l.literals));
  others : IsTrue (clause_within l.variables (drop l.i l.others));
}
