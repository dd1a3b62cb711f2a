use Rattle.std.proofs.Common.{◌≡◌, length}
use Rattle.clause_log.proofs.Running.{Progress, state_at}
use Rattle.clause_log.proofs.check.check_log.Given as goal

abbrev pub invariant-loop-entry : goal.invariant-loop-entry
invariant-loop-entry l = record {
  state : l.checker ≡ state_at l.cnf.variables l.cnf.clauses l.checker.lemmas;
  progress : Progress l.cnf.variables l.cnf.clauses l.log l.entries l.checker.lemmas l.lemma l.ended;
}

abbrev pub decreases-loop-entry : goal.decreases-loop-entry
decreases-loop-entry l = length l.entries
