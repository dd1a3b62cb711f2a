use Rattle.std.proofs.Common.{◌≡◌, ◌++◌, length}
use Rattle.std.specs.Bool.{IsTrue}
use Rattle.clauses.specs.Literals.{clause_within}
use Rattle.clauses.specs.declared.flat.TheConstants.{MOST_VARIABLES}
use Rattle.clause_text.proofs.Splitting.{front, GoesOn}
use Rattle.clause_text.proofs.words.read_literals.Given as goal

abbrev pub invariant-loop-word : goal.invariant-loop-word
invariant-loop-word l = record {
  is : l.line ≡ front l.literals.items ++ l.rest;
  within : IsTrue (clause_within MOST_VARIABLES l.literals.items);
  goes : GoesOn l.line l.literals.items l.rest;
}

abbrev pub decreases-loop-word : goal.decreases-loop-word
decreases-loop-word l = length l.rest
