use Rattle.std.proofs.Common.{◌≡◌, suc, length, drop}
use Rattle.std.specs.List.{flat_map}
use Rattle.std.proofs.Common.{List, ℤ}
use Rattle.gates_formula.specs.Marks.{AreMarks}
use Rattle.gates_formula.proofs.wanted.marks_of.Given as goal

abbrev pub invariant-loop-i : goal.invariant-loop-i
invariant-loop-i l = record {
  size : length l.marks ≡ suc l.fn.variables;
  marks : AreMarks l.marks (flat_map (λ (clause : List ℤ). clause) (drop l.i l.fn.clauses));
}
