-- The lines of a clause log.
use Rattle.std.specs.Prelude.{ℕ, ◌==◌, Bool, not, ◌&&◌, ◌||◌, ℤ, List, [], ◌∷◌, ◌++◌, decimal, filter}
use Rattle.std.specs.Fmt.{signed_decimal}
use Rattle.std.specs.List.{list_all}
use Rattle.clauses.specs.Logs.{LogEntry, is_lemma, is_entry}
use Rattle.clauses.specs.Logs.LogEntry.{Lemma, Forget}

-- literals with a 0 behind them, and clause numbers with one
abbrev pub literals_text : List ℤ → List ℕ
literals_text [] = 48 ∷ []
literals_text (literal ∷ literals) = signed_decimal literal ++ 32 ∷ literals_text literals

abbrev pub hints_text : List ℕ → List ℕ
hints_text [] = 48 ∷ []
hints_text (hint ∷ hints) = decimal hint ++ 32 ∷ hints_text hints

-- the line of an entry, without its line feed. A lemma line is its literals and a 0, and its hints and a 0; a drop line is
-- a `d` and the number of the lemma; one blank stands between two of them
abbrev pub entry_text : LogEntry → List ℕ
entry_text (Lemma literals hints) = literals_text literals ++ 32 ∷ hints_text hints
entry_text (Forget number) = 100 ∷ 32 ∷ decimal number

-- the lines of a log, each ended by a line feed
abbrev pub lines_of : List LogEntry → List ℕ
lines_of [] = []
lines_of (entry ∷ log) = entry_text entry ++ 10 ∷ lines_of log

-- the lemmas of a log, without its drops
abbrev pub lemmas_alone : List LogEntry → List LogEntry
lemmas_alone log = filter is_lemma log

-- an entry may have a line: its numbers are some, and drops have lines or it is none
abbrev pub has_line : Bool → LogEntry → Bool
has_line drops entry = is_entry entry && (drops || is_lemma entry)

-- a byte does not stand in a text
abbrev pub lacks : ℕ → List ℕ → Bool
lacks byte text = list_all (λ other. not (other == byte)) text
