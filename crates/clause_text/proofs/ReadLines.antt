-- A line more that is read.
use Rattle.std.proofs.Common.{◌≡◌, ◌∙◌, ap, sym, ℕ, suc, ◌+◌, ◌≤◌, Bool, true, List, [], ◌∷◌, ◌++◌, length, arith, refl, append_assoc}
use Rattle.std.specs.Bool.{IsTrue}
use Rattle.std.specs.List.{list_all}
use Rattle.std.proofs.lemmas.Bool.{and_from}
use Rattle.std.proofs.lemmas.List.{length_push}
use Rattle.std.proofs.lemmas.List.Sums.{sum_by-append, sum_by-cons}
use Rattle.std.proofs.lemmas.List.Folds.{list_all-append}
use Rattle.clauses.specs.Logs.{LogEntry, entry_words, log_words}
use Rattle.clause_text.specs.declared.fault.TheConstants.{MOST_READ_WORDS}
use Rattle.clause_text.specs.declared.reading.Added.TheVariants as added
use Rattle.clause_text.specs.Lines.{lacks, entry_text, lines_of, has_line}
use Rattle.clause_text.specs.Adding.{AddsLine}
use Rattle.clause_text.specs.Readings.{GoesOnAt, IsBadLine, IsTooLong}

-- the lines of a log and one more
pub lines_push : (log : List LogEntry) (entry : LogEntry) (rest : List ℕ) → lines_of (log ++ entry ∷ []) ++ rest ≡ lines_of log ++ (entry_text entry ++ 10 ∷ rest)
lines_push [] entry rest = append_assoc (entry_text entry) (10 ∷ []) rest
lines_push (first ∷ log) entry rest =
    append_assoc (entry_text first) (10 ∷ lines_of (log ++ entry ∷ [])) rest
    ∙ ap (λ bs. entry_text first ++ 10 ∷ bs) (lines_push log entry rest)
    ∙ sym (append_assoc (entry_text first) (10 ∷ lines_of log) (entry_text entry ++ 10 ∷ rest))

-- what was read before a line
pub record ReadTo (drops : Bool) (bytes rest : List ℕ) (log : List LogEntry) (line : ℕ) : Type 0 where
  pub text : bytes ≡ lines_of log ++ rest
  pub entries : IsTrue (list_all (has_line drops) log)
  pub few : log_words log ≤ MOST_READ_WORDS
  pub at_line : line ≡ suc (length log)

pub goes_on : (drops : Bool) (bytes rest other : List ℕ) (log : List LogEntry) (line : ℕ) → ReadTo drops bytes rest log line → rest ≡ other → GoesOnAt drops bytes other log line
goes_on drops bytes rest other log line read same = record {
  is = read.text ∙ ap (λ bs. lines_of log ++ bs) same;
  entries = read.entries;
  few = read.few;
  number = read.at_line;
}

pub bad_line : (drops : Bool) (bytes rest text next : List ℕ) (log new : List LogEntry) (line : ℕ) → ReadTo drops bytes rest log line → rest ≡ text ++ 10 ∷ next → lacks 10 text ≡ true →
    AddsLine drops log text added.NoEntry new → IsBadLine drops bytes line
bad_line drops bytes rest text next log new line read split whole bad = record {
  before = log;
  bytes = text;
  behind = next;
  at = goes_on drops bytes rest (text ++ 10 ∷ next) log line read split;
  whole = whole;
  bad = bad;
}

pub too_long : (drops : Bool) (bytes rest text next : List ℕ) (log new : List LogEntry) (line : ℕ) → ReadTo drops bytes rest log line → rest ≡ text ++ 10 ∷ next →
    AddsLine drops log text added.TooLong new → IsTooLong drops bytes line
too_long drops bytes rest text next log new line read split long = record {
  before = log;
  entry = long.0;
  behind = next;
  at = goes_on drops bytes rest (entry_text long.0 ++ 10 ∷ next) log line read (split ∙ ap (λ bs. bs ++ 10 ∷ next) long.2);
  here = long.1;
  many = long.3;
}

pub read_more : (drops : Bool) (bytes rest text next : List ℕ) (log new : List LogEntry) (line : ℕ) → ReadTo drops bytes rest log line → rest ≡ text ++ 10 ∷ next →
    AddsLine drops log text added.Added new → ReadTo drops bytes next new (line + 1)
read_more drops bytes rest text next log new line read split more =
    let entry = more.0 in
    let is : new ≡ log ++ entry ∷ [] = more.3.0 in
    record {
      text = rw is (read.text ∙ ap (λ bs. lines_of log ++ bs) (split ∙ ap (λ bs. bs ++ 10 ∷ next) more.2) ∙ sym (lines_push log entry next));
      entries = rw is (list_all-append (has_line drops) log (entry ∷ []) ∙ and_from (list_all (has_line drops) log) (list_all (has_line drops) (entry ∷ [])) read.entries (and_from (has_line drops entry) true more.1 refl));
      few = rw is (omega (arith, more.3.1, sum_by-append entry_words log (entry ∷ []), sum_by-cons entry_words entry []));
      at_line = rw is (omega (arith, read.at_line, length_push log entry));
    }
