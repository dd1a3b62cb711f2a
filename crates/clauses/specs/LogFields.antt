-- What a log keeps of its fields.
use Rattle.std.specs.Prelude.{◌≡◌, ◌+◌, ◌*◌, ◌≤◌, List, length, count_by}
use Rattle.clauses.specs.declared.log.Log.TheInside.{Inside}
use Rattle.clauses.specs.declared.log.TheConstants.{MOST_LOG_WORDS}
use Rattle.clauses.specs.Logs.{LogEntry}
use Rattle.clauses.specs.Entries.{entries_of, is_lemma_shape, IsPacked}

abbrev pub log_of : Inside → List LogEntry
log_of log = entries_of log.literals.items log.hints.items log.shapes.items

-- the entries follow one another, and the log keeps to its limit
pub record IsLog (log : Inside) : Type 0 where
  pub packed : IsPacked log.literals.items log.hints.items log.shapes.items
  pub lemmas : log.lemmas ≡ count_by is_lemma_shape log.shapes.items
  pub few : length log.literals.items + length log.hints.items + 2 * log.lemmas ≤ MOST_LOG_WORDS
