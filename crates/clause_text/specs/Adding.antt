-- What becomes of a line that is read behind others.
use Rattle.std.specs.Prelude.{◌≡◌, ℕ, ◌+◌, ◌<◌, ◌≤◌, Bool, true, List, [], ◌∷◌, ◌++◌}
use Rattle.clauses.specs.Logs.{LogEntry, entry_words, log_words}
use Rattle.clause_text.specs.declared.fault.TheConstants.{MOST_READ_WORDS}
use Rattle.clause_text.specs.declared.reading.Added.{Added}
use Rattle.clause_text.specs.declared.reading.Added.TheVariants as added
use Rattle.clause_text.specs.Lines.{entry_text, has_line}

-- an entry is added where the words stay few
abbrev pub Adds : List LogEntry → LogEntry → Added → List LogEntry → Type 0
Adds old entry added.Added new = (new ≡ old ++ entry ∷ []) × (log_words old + entry_words entry ≤ MOST_READ_WORDS)
Adds old entry added.NoEntry new = ⊥
Adds old entry added.TooLong new = MOST_READ_WORDS < log_words old + entry_words entry

-- the entry of a line is added, where the line is an entry's
abbrev pub AddsLine : Bool → List LogEntry → List ℕ → Added → List LogEntry → Type 0
AddsLine drops old line added.Added new =
    (entry : LogEntry) × (has_line drops entry ≡ true) × (line ≡ entry_text entry) × Adds old entry added.Added new
AddsLine drops old line added.NoEntry new = (entry : LogEntry) → has_line drops entry ≡ true → line ≡ entry_text entry → ⊥
AddsLine drops old line added.TooLong new =
    (entry : LogEntry) × (has_line drops entry ≡ true) × (line ≡ entry_text entry) × Adds old entry added.TooLong new
