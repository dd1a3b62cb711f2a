use Rattle.std.proofs.Common.{◌≡◌, ◌++◌, drop, map}
use Rattle.clause_text.specs.Lines.{literals_text}
use Rattle.cert_theory.specs.Lines.{lines_text}
use Rattle.cert_text.proofs.inductive.add_clauses.Given as goal

abbrev pub invariant-loop-place : goal.invariant-loop-place
invariant-loop-place l =
    l.text.items ++ lines_text (map literals_text (drop l.place l.clauses)) ≡ l.fn.text.items ++ lines_text (map literals_text l.clauses)
