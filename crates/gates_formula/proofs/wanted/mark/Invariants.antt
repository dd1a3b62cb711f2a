use Rattle.std.proofs.Common.{◌≡◌, ◌-◌, length, drop, IsTrue}
use Rattle.clauses.specs.Literals.{clause_within}
use Rattle.gates_formula.proofs.Marked.{MarksSoFar}
use Rattle.gates_formula.proofs.wanted.mark.Given as goal

abbrev pub invariant-loop-i : goal.invariant-loop-i
invariant-loop-i l = record {
  size : length l.marks ≡ length l.initial.marks;
  marks : MarksSoFar (drop l.i l.literals) l.literals l.initial.marks l.marks;
  within : IsTrue (clause_within (length l.initial.marks - 1) (drop l.i l.literals));
}
