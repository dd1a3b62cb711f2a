use Rattle.std.proofs.Common.{◌≡◌, ◌+◌, ◌≤◌, max, length}
use Rattle.clauses.specs.Logs.{log_words}
use Rattle.clauses.specs.declared.log.TheConstants.{MOST_LOG_WORDS}
use Rattle.cert_theory.specs.Printed.{most_from}
use Rattle.cert_text.proofs.live.most_live.Given as goal

abbrev pub invariant-loop-entry : goal.invariant-loop-entry
invariant-loop-entry l = record {
  whole : max l.most (most_from l.held l.entries) ≡ most_from 0 l.log;
  order : l.held ≤ l.most;
  few : l.held + log_words l.entries ≤ MOST_LOG_WORDS;
}

abbrev pub decreases-loop-entry : goal.decreases-loop-entry
decreases-loop-entry l = length l.entries
