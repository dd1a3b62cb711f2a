-- What a text of lines stands for, and its first fault.
use Rattle.std.specs.Prelude.{◌≡◌, ℕ, suc, ◌+◌, ◌<◌, ◌≤◌, Bool, true, List, ◌∷◌, ◌++◌, length, IsTrue}
use Rattle.std.specs.List.{list_all}
use Rattle.clauses.specs.Logs.{LogEntry, is_entry, entry_words, log_words}
use Rattle.clause_text.specs.declared.fault.LogFault.{LogFault}
use Rattle.clause_text.specs.declared.fault.LogFault.TheVariants.{BadLine, Truncated, TooLong, NoMemory}
use Rattle.clause_text.specs.declared.fault.TheConstants.{MOST_READ_WORDS}
use Rattle.clause_text.specs.Lines.{entry_text, lines_of, has_line, lacks}

-- a text is the lines of a log whose words are not too many; drops have lines, or only lemmas do
pub record StandsFor (drops : Bool) (text : List ℕ) (log : List LogEntry) : Type 0 where
  pub lines : text ≡ lines_of log
  pub entries : IsTrue (list_all (has_line drops) log)
  pub few : log_words log ≤ MOST_READ_WORDS

-- a log can be printed and read again: its numbers are some, and its words are not too many
abbrev pub IsReadable : List LogEntry → Type 0
IsReadable log = IsTrue (list_all is_entry log) × (log_words log ≤ MOST_READ_WORDS)

-- a text begins with the lines of entries, and goes on at a line with this number
pub record GoesOnAt (drops : Bool) (text rest : List ℕ) (before : List LogEntry) (line : ℕ) : Type 0 where
  pub is : text ≡ lines_of before ++ rest
  pub entries : IsTrue (list_all (has_line drops) before)
  pub few : log_words before ≤ MOST_READ_WORDS
  pub number : line ≡ suc (length before)

-- the whole line there is no entry's
pub record IsBadLine (drops : Bool) (text : List ℕ) (line : ℕ) : Type 0 where
  pub before : List LogEntry
  pub bytes : List ℕ
  pub behind : List ℕ
  pub at : GoesOnAt drops text (bytes ++ 10 ∷ behind) before line
  pub whole : lacks 10 bytes ≡ true
  pub bad : (entry : LogEntry) → has_line drops entry ≡ true → bytes ≡ entry_text entry → ⊥

-- the text ends inside the line there
pub record IsTruncated (drops : Bool) (text : List ℕ) (line : ℕ) : Type 0 where
  pub before : List LogEntry
  pub bytes : List ℕ
  pub at : GoesOnAt drops text bytes before line
  pub some : 0 < length bytes
  pub inside : lacks 10 bytes ≡ true

-- with the line there the words are too many
pub record IsTooLong (drops : Bool) (text : List ℕ) (line : ℕ) : Type 0 where
  pub before : List LogEntry
  pub entry : LogEntry
  pub behind : List ℕ
  pub at : GoesOnAt drops text (entry_text entry ++ 10 ∷ behind) before line
  pub here : has_line drops entry ≡ true
  pub many : MOST_READ_WORDS < log_words before + entry_words entry

-- the first fault of a text
abbrev pub IsFirstFault : Bool → List ℕ → LogFault → Type 0
IsFirstFault drops text (BadLine line) = IsBadLine drops text line
IsFirstFault drops text (Truncated line) = IsTruncated drops text line
IsFirstFault drops text (TooLong line) = IsTooLong drops text line
IsFirstFault drops text NoMemory = Unit {0}
