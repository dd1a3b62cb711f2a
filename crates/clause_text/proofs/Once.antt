-- A line is that of one entry, and a text that of one log.
use Rattle.std.proofs.Common.{◌≡◌, ◌∙◌, ap, sym, subst, ℕ, ◌<◌, ℤ, pos, negsuc, Bool, true, false, not, eqb, ◌||◌, List, [], ◌∷◌, ◌++◌, map, get_or, arith, refl, append_assoc, ◌≤◌, ◌+◌, length}
use Rattle.std.specs.Prelude.{decimal}
use Rattle.std.specs.Fmt.{signed_decimal}
use Rattle.std.specs.Bool.{IsTrue}
use Rattle.std.specs.List.{list_all}
use Rattle.std.proofs.lemmas.Bool.{and_parts, and_from, ne_eqb, false≢true}
use Rattle.std.proofs.lemmas.List.{append-nil}
use Rattle.std.proofs.lemmas.List.Folds.{list_all-append}
use Rattle.std.proofs.lemmas.Fmt.{signed_decimal_injective, decimal_injective, decimal_digit}
use Rattle.clauses.specs.Literals.{is_literal, clause_within}
use Rattle.clauses.specs.declared.flat.TheConstants.{MOST_VARIABLES}
use Rattle.clauses.specs.Logs.{LogEntry, is_number, is_entry, is_lemma, entry_words, log_words}
use Rattle.clauses.specs.Logs.LogEntry.{Lemma, Forget}
use Rattle.clause_text.specs.Lines.{lacks, literals_text, hints_text, entry_text, lines_of, lemmas_alone, has_line}
use Rattle.std.proofs.lemmas.List.Sums.{sum_by-append, sum_by-cons}
use Rattle.clause_text.specs.declared.fault.LogFault.{LogFault}
use Rattle.clause_text.specs.declared.fault.LogFault.TheVariants as faults
use Rattle.clause_text.specs.Readings.{StandsFor, IsFirstFault}
use Rattle.clause_text.specs.Words.{Ends, Begins, AreNumbers, AreHints, IsLemmaLine}
use Rattle.clause_text.proofs.Numerals.{AreDigits, decimal_are_digits, number_parts}
use Rattle.clause_text.proofs.Splitting.{split_once, first_literal, literal_lacks, decimal_lacks, mag_small, within_parts}

-- no literal is written as 0
not_zero_text : (literal : ℤ) → is_literal literal ≡ true → 48 ∷ [] ≡ signed_decimal literal → ⊥
not_zero_text literal some same =
    let is : literal ≡ pos 0 = signed_decimal_injective literal (pos 0) (mag_small literal some) (omega arith) (sym same ∙ sym (decimal_digit 0 (omega arith))) in
    false≢true (subst (λ (l : ℤ). is_literal l ≡ true) is some)

-- literals with a 0 behind them are read in one way
pub literals_once : (literals others : List ℤ) (behind rest : List ℕ) → IsTrue (clause_within MOST_VARIABLES literals) → IsTrue (clause_within MOST_VARIABLES others) →
    Ends behind → Ends rest → literals_text literals ++ behind ≡ literals_text others ++ rest → (literals ≡ others) × (behind ≡ rest)
literals_once [] [] behind rest within also end finish same = (refl, cc)
literals_once [] (other ∷ others) behind rest within also end finish same =
    let some = within_parts other others also in
    absurd (not_zero_text other some.0 (first_literal (48 ∷ []) behind rest other others refl end some.0 same).0)
literals_once (literal ∷ literals) [] behind rest within also end finish same =
    let some = within_parts literal literals within in
    absurd (not_zero_text literal some.0 (first_literal (48 ∷ []) rest behind literal literals refl finish some.0 (sym same)).0)
literals_once (literal ∷ literals) (other ∷ others) behind rest within also end finish same =
    let some = within_parts literal literals within in
    let more = within_parts other others also in
    let split = first_literal (signed_decimal literal) (32 ∷ (literals_text literals ++ behind)) rest other others (literal_lacks 32 literal (omega arith) some.0) refl more.0
    (sym (append_assoc (signed_decimal literal) (32 ∷ literals_text literals) behind) ∙ same) in
    let head : literal ≡ other = signed_decimal_injective literal other (mag_small literal some.0) (mag_small other more.0) split.0 in
    let tails : literals_text literals ++ behind ≡ literals_text others ++ rest = cc in
    let next = literals_once literals others behind rest some.1 more.1 end finish tails in
    (ap (λ l. l ∷ literals) head ∙ ap (λ ls. other ∷ ls) next.0, next.1)

-- hints are literals that are not negated
pub hints_are : (hints : List ℕ) → hints_text hints ≡ literals_text (map (λ n. pos n) hints)
hints_are [] = refl
hints_are (hint ∷ hints) = ap (λ bs. decimal hint ++ 32 ∷ bs) (hints_are hints)

pub hints_within : (hints : List ℕ) → list_all is_number hints ≡ true → IsTrue (clause_within MOST_VARIABLES (map (λ n. pos n) hints))
hints_within [] all = refl
hints_within (hint ∷ hints) all =
    let parts = and_parts (is_number hint) (list_all is_number hints) all in
    and_from (is_literal (pos hint)) (clause_within MOST_VARIABLES (map (λ n. pos n) hints)) parts.0 (hints_within hints parts.1)

pub pos_once : (first second : List ℕ) → map (λ n. pos n) first ≡ map (λ n. pos n) second → first ≡ second
pos_once [] [] same = refl
pos_once [] (y ∷ second) same = cc
pos_once (x ∷ first) [] same = cc
pos_once (x ∷ first) (y ∷ second) same =
    let head : x ≡ y = cc in
    let tails : map (λ n. pos n) first ≡ map (λ n. pos n) second = cc in
    ap (λ n. n ∷ first) head ∙ ap (λ ns. y ∷ ns) (pos_once first second tails)

-- a lemma line begins with its literals, and goes on with its hints
pub lemma_begins : (line : List ℕ) (literals : List ℤ) (hints : List ℕ) → is_entry (Lemma literals hints) ≡ true → line ≡ entry_text (Lemma literals hints) → Begins line (32 ∷ hints_text hints) literals
lemma_begins line literals hints some is = record {
  is = is;
  within = (and_parts (clause_within MOST_VARIABLES literals) (list_all is_number hints) some).0;
  ends = refl;
}

pub hints_begin : (text : List ℕ) (hints : List ℕ) → list_all is_number hints ≡ true → text ≡ hints_text hints → Begins text [] (map (λ n. pos n) hints)
hints_begin text hints some is = record {
  is = is ∙ hints_are hints ∙ sym (append-nil (literals_text (map (λ n. pos n) hints)));
  within = hints_within hints some;
  ends = tt;
}

pub begins_once : (line behind rest : List ℕ) (literals others : List ℤ) → Begins line behind literals → Begins line rest others → (literals ≡ others) × (behind ≡ rest)
begins_once line behind rest literals others one other =
    literals_once literals others behind rest one.within other.within one.ends other.ends (sym one.is ∙ other.is)

-- a text that begins with literals and a 0 and goes on is no hints
pub no_hints_behind : (text end : List ℕ) (read : List ℤ) (others : List ℕ) → Begins text end read → (end ≡ [] → ⊥) → list_all is_number others ≡ true → text ≡ hints_text others → ⊥
no_hints_behind text end read others begins some all is = some (begins_once text end [] read (map (λ n. pos n) others) begins (hints_begin text others all is)).1

pub are_hints : (text end : List ℕ) (read : List ℤ) (hints : List ℕ) (all : Bool) → Begins text end read → end ≡ [] → AreNumbers read hints all → AreHints text hints all
are_hints text end read hints true begins none are = (
  begins.is ∙ ap (λ (bs : List ℕ). literals_text read ++ bs) none ∙ append-nil (literals_text read) ∙ ap literals_text are.0 ∙ sym (hints_are hints),
  are.1,
)
are_hints text end read hints false begins none are = λ others all is.
    are others (begins_once text end [] read (map (λ n. pos n) others) begins (hints_begin text others all is)).0

-- a line that begins with literals and a 0 alone is no lemma's
pub no_lemma : (line : List ℕ) (read others : List ℤ) (more : List ℕ) → Begins line [] read → is_entry (Lemma others more) ≡ true → line ≡ entry_text (Lemma others more) → ⊥
no_lemma line read others more begins some is =
    let both = begins_once line [] (32 ∷ hints_text more) read others begins (lemma_begins line others more some is) in
    let end = both.1 in
    cc

pub is_lemma_line : (line second : List ℕ) (first : ℕ) (read : List ℤ) (hints : List ℕ) (are : Bool) → Begins line (first ∷ second) read → AreHints second hints are → IsLemmaLine line read hints are
is_lemma_line line second first read hints true begins hint = (
  begins.is ∙ ap (λ b. literals_text read ++ b ∷ second) begins.ends ∙ ap (λ (bs : List ℕ). literals_text read ++ 32 ∷ bs) hint.0,
  and_from (clause_within MOST_VARIABLES read) (list_all is_number hints) begins.within hint.1,
)
is_lemma_line line second first read hints false begins hint = λ others more some is.
    let both = begins_once line (first ∷ second) (32 ∷ hints_text more) read others begins (lemma_begins line others more some is) in
    let tails : second ≡ hints_text more = (let end = both.1 in cc) in
    hint more (and_parts (clause_within MOST_VARIABLES others) (list_all is_number more) some).1 tails

-- a line that begins with literals and a 0 and goes on is no clause's
pub no_clause : (line behind : List ℕ) (read others : List ℤ) → Begins line behind read → (behind ≡ [] → ⊥) → IsTrue (clause_within MOST_VARIABLES others) → line ≡ literals_text others → ⊥
no_clause line behind read others begins more within is =
    more (begins_once line behind [] read others begins (record { is = is ∙ sym (append-nil (literals_text others)); within = within; ends = tt })).1

-- nor is one that begins with no list of literals
pub no_list : (line : List ℕ) (others : List ℤ) → ((behind : List ℕ) (literals : List ℤ) → Begins line behind literals → ⊥) → IsTrue (clause_within MOST_VARIABLES others) → line ≡ literals_text others → ⊥
no_list line others none within is = none [] others (record { is = is ∙ sym (append-nil (literals_text others)); within = within; ends = tt })

pub clause_is : (line behind : List ℕ) (read : List ℤ) → Begins line behind read → behind ≡ [] → line ≡ literals_text read
clause_is line behind read begins none = begins.is ∙ ap (λ (bs : List ℕ). literals_text read ++ bs) none ∙ append-nil (literals_text read)

-- the line of an entry has no line feed
pub literals_lack : (mark : ℕ) (literals : List ℤ) → mark < 32 → IsTrue (clause_within MOST_VARIABLES literals) → lacks mark (literals_text literals) ≡ true
literals_lack mark [] low all = and_from (not (eqb 48 mark)) true (ap not (ne_eqb 48 mark (λ same. omega arith))) refl
literals_lack mark (literal ∷ literals) low all =
    let parts = within_parts literal literals all in
    list_all-append (λ other. not (eqb other mark)) (signed_decimal literal) (32 ∷ literals_text literals)
    ∙ and_from (lacks mark (signed_decimal literal)) (lacks mark (32 ∷ literals_text literals)) (literal_lacks mark literal (omega arith) parts.0)
    (and_from (not (eqb 32 mark)) (lacks mark (literals_text literals)) (ap not (ne_eqb 32 mark (λ same. omega arith))) (literals_lack mark literals low parts.1))

pub entry_lacks : (mark : ℕ) (entry : LogEntry) → mark < 32 → is_entry entry ≡ true → lacks mark (entry_text entry) ≡ true
entry_lacks mark (Lemma literals hints) low some =
    let parts = and_parts (clause_within MOST_VARIABLES literals) (list_all is_number hints) some in
    list_all-append (λ other. not (eqb other mark)) (literals_text literals) (32 ∷ hints_text hints)
    ∙ and_from (lacks mark (literals_text literals)) (lacks mark (32 ∷ hints_text hints)) (literals_lack mark literals low parts.0)
    (and_from (not (eqb 32 mark)) (lacks mark (hints_text hints)) (ap not (ne_eqb 32 mark (λ same. omega arith)))
    (ap (lacks mark) (hints_are hints) ∙ literals_lack mark (map (λ n. pos n) hints) low (hints_within hints parts.1)))
entry_lacks mark (Forget number) low some =
    let parts = number_parts number some in
    and_from (not (eqb 100 mark)) (lacks mark (32 ∷ decimal number)) (ap not (ne_eqb 100 mark (λ same. omega arith)))
    (and_from (not (eqb 32 mark)) (lacks mark (decimal number)) (ap not (ne_eqb 32 mark (λ same. omega arith))) (decimal_lacks mark number (omega arith) (omega (arith, parts.1))))

-- a lemma line is no drop line
not_d : (literal : ℤ) → is_literal literal ≡ true → 100 ∷ [] ≡ signed_decimal literal → ⊥
not_d (pos n) some same =
    let digits : AreDigits (100 ∷ []) = subst AreDigits (sym same) (decimal_are_digits n (omega (arith, (number_parts n some).1))) in
    false≢true digits
not_d (negsuc n) some same = absurd (omega (arith, ap (λ (bs : List ℕ). get_or bs 0 0) same))

no_drop : (literals : List ℤ) (hints : List ℕ) (number : ℕ) → IsTrue (clause_within MOST_VARIABLES literals) → entry_text (Forget number) ≡ entry_text (Lemma literals hints) → ⊥
no_drop [] hints number within same = absurd (omega (arith, ap (λ (bs : List ℕ). get_or bs 0 0) same))
no_drop (literal ∷ literals) hints number within same =
    let parts = within_parts literal literals within in
    not_d literal parts.0 (first_literal (100 ∷ []) (32 ∷ decimal number) (32 ∷ hints_text hints) literal literals refl refl parts.0 same).0

-- the line of one entry
pub entry_once : (entry other : LogEntry) → is_entry entry ≡ true → is_entry other ≡ true → entry_text entry ≡ entry_text other → entry ≡ other
entry_once (Lemma literals hints) (Lemma others more) some also same =
    let parts = and_parts (clause_within MOST_VARIABLES literals) (list_all is_number hints) some in
    let both = and_parts (clause_within MOST_VARIABLES others) (list_all is_number more) also in
    let split = literals_once literals others (32 ∷ hints_text hints) (32 ∷ hints_text more) parts.0 both.0 refl refl same in
    let tails : hints_text hints ≡ hints_text more = (let end = split.1 in cc) in
    let hint = literals_once (map (λ n. pos n) hints) (map (λ n. pos n) more) [] [] (hints_within hints parts.1) (hints_within more both.1) tt tt
    (ap (λ bs. bs ++ []) (sym (hints_are hints) ∙ tails ∙ hints_are more)) in
    ap (λ ls. Lemma ls hints) split.0 ∙ ap (Lemma others) (pos_once hints more hint.0)
entry_once (Lemma literals hints) (Forget number) some also same =
    absurd (no_drop literals hints number (and_parts (clause_within MOST_VARIABLES literals) (list_all is_number hints) some).0 (sym same))
entry_once (Forget number) (Lemma others more) some also same =
    absurd (no_drop others more number (and_parts (clause_within MOST_VARIABLES others) (list_all is_number more) also).0 same)
entry_once (Forget number) (Forget other) some also same =
    let tails : decimal number ≡ decimal other = cc in
    ap Forget (decimal_injective number other (omega (arith, (number_parts number some).1)) (omega (arith, (number_parts other also).1)) tails)

-- a text that begins with a line is not empty
not_empty : (text rest : List ℕ) → [] ≡ text ++ 10 ∷ rest → ⊥
not_empty [] rest same = cc
not_empty (byte ∷ text) rest same = cc

entries_parts : (drops : Bool) (entry : LogEntry) (log : List LogEntry) → IsTrue (list_all (has_line drops) (entry ∷ log)) → (is_entry entry ≡ true) × IsTrue (list_all (has_line drops) log)
entries_parts drops entry log all =
    let parts = and_parts (has_line drops entry) (list_all (has_line drops) log) all in
    ((and_parts (is_entry entry) (drops || is_lemma entry) parts.0).0, parts.1)

-- the lines of one log
pub lines_once : (drops : Bool) (log other : List LogEntry) → IsTrue (list_all (has_line drops) log) → IsTrue (list_all (has_line drops) other) → lines_of log ≡ lines_of other → log ≡ other
lines_once drops [] [] all also same = refl
lines_once drops [] (entry ∷ other) all also same = absurd (not_empty (entry_text entry) (lines_of other) same)
lines_once drops (entry ∷ log) [] all also same = absurd (not_empty (entry_text entry) (lines_of log) (sym same))
lines_once drops (entry ∷ log) (next ∷ other) all also same =
    let some = entries_parts drops entry log all in
    let more = entries_parts drops next other also in
    let split = split_once 10 (entry_text entry) (10 ∷ lines_of log) (entry_text next) (10 ∷ lines_of other)
    (entry_lacks 10 entry (omega arith) some.0) (entry_lacks 10 next (omega arith) more.0) refl refl same in
    let tails : lines_of log ≡ lines_of other = (let end = split.1 in cc) in
    ap (λ e. e ∷ log) (entry_once entry next some.0 more.0 split.0) ∙ ap (λ es. next ∷ es) (lines_once drops log other some.1 more.1 tails)

-- a log has lines, and so has one without its drops
pub all_have_lines : (log : List LogEntry) → IsTrue (list_all is_entry log) → IsTrue (list_all (has_line true) log)
all_have_lines [] all = refl
all_have_lines (entry ∷ log) all =
    let parts = and_parts (is_entry entry) (list_all is_entry log) all in
    and_from (has_line true entry) (list_all (has_line true) log) (and_from (is_entry entry) true parts.0 refl) (all_have_lines log parts.1)

pub lemmas_have_lines : (log : List LogEntry) → IsTrue (list_all is_entry log) → IsTrue (list_all (has_line false) (lemmas_alone log))
lemmas_have_lines [] all = refl
lemmas_have_lines (Lemma literals hints ∷ log) all =
    let parts = and_parts (is_entry (Lemma literals hints)) (list_all is_entry log) all in
    and_from (has_line false (Lemma literals hints)) (list_all (has_line false) (lemmas_alone log)) (and_from (is_entry (Lemma literals hints)) true parts.0 refl) (lemmas_have_lines log parts.1)
lemmas_have_lines (Forget number ∷ log) all = lemmas_have_lines log (and_parts (is_entry (Forget number)) (list_all is_entry log) all).1

-- drops have no words
pub lemma_words : (log : List LogEntry) → log_words (lemmas_alone log) ≡ log_words log
lemma_words [] = refl
lemma_words (Lemma literals hints ∷ log) =
    omega (arith, sum_by-cons entry_words (Lemma literals hints) (lemmas_alone log), sum_by-cons entry_words (Lemma literals hints) log, lemma_words log)
lemma_words (Forget number ∷ log) = omega (arith, sum_by-cons entry_words (Forget number) log, lemma_words log)

-- lines that begin with those of other entries go on with lines
record GoesOnWith (log before : List LogEntry) (rest : List ℕ) : Type 0 where
  more : List LogEntry
  is : log ≡ before ++ more
  lines : rest ≡ lines_of more

goes_on_with : (drops : Bool) (log before : List LogEntry) (rest : List ℕ) → IsTrue (list_all (has_line drops) log) → IsTrue (list_all (has_line drops) before) →
    lines_of log ≡ lines_of before ++ rest → GoesOnWith log before rest
goes_on_with drops log [] rest all also same = record { more = log; is = refl; lines = sym same }
goes_on_with drops [] (entry ∷ before) rest all also same =
    absurd (not_empty (entry_text entry) (lines_of before ++ rest) (same ∙ append_assoc (entry_text entry) (10 ∷ lines_of before) rest))
goes_on_with drops (first ∷ log) (entry ∷ before) rest all also same =
    let some = entries_parts drops first log all in
    let more = entries_parts drops entry before also in
    let split = split_once 10 (entry_text first) (10 ∷ lines_of log) (entry_text entry) (10 ∷ (lines_of before ++ rest))
    (entry_lacks 10 first (omega arith) some.0) (entry_lacks 10 entry (omega arith) more.0) refl refl
    (same ∙ append_assoc (entry_text entry) (10 ∷ lines_of before) rest) in
    let tails : lines_of log ≡ lines_of before ++ rest = (let end = split.1 in cc) in
    let next = goes_on_with drops log before rest some.1 more.1 tails in
    record {
      more = next.more;
      is = ap (λ es. first ∷ es) next.is ∙ ap (λ e. e ∷ (before ++ next.more)) (entry_once first entry some.0 more.0 split.0);
      lines = next.lines;
    }

all_of_more : (drops : Bool) (log before more : List LogEntry) → IsTrue (list_all (has_line drops) log) → log ≡ before ++ more → IsTrue (list_all (has_line drops) more)
all_of_more drops log before more all is =
    (and_parts (list_all (has_line drops) before) (list_all (has_line drops) more) (sym (list_all-append (has_line drops) before more) ∙ sym (ap (list_all (has_line drops)) is) ∙ all)).1

words_of_more : (log before more : List LogEntry) → log ≡ before ++ more → log_words log ≡ log_words before + log_words more
words_of_more log before more is = ap log_words is ∙ sum_by-append entry_words before more

-- a line that is no entry's does not come next
no_bad_line : (drops : Bool) (more : List LogEntry) (bytes behind : List ℕ) → IsTrue (list_all (has_line drops) more) → lacks 10 bytes ≡ true →
    bytes ++ 10 ∷ behind ≡ lines_of more → ((entry : LogEntry) → has_line drops entry ≡ true → bytes ≡ entry_text entry → ⊥) → ⊥
no_bad_line drops [] bytes behind all whole same bad = not_empty bytes behind (sym same)
no_bad_line drops (entry ∷ more) bytes behind all whole same bad =
    let parts = and_parts (has_line drops entry) (list_all (has_line drops) more) all in
    bad entry parts.0 (split_once 10 bytes (10 ∷ behind) (entry_text entry) (10 ∷ lines_of more) whole (entry_lacks 10 entry (omega arith) (entries_parts drops entry more all).0) refl refl same).0

-- nor does a line that does not end
no_open_line : (drops : Bool) (more : List LogEntry) (bytes : List ℕ) → IsTrue (list_all (has_line drops) more) → lacks 10 bytes ≡ true → 0 < length bytes → bytes ≡ lines_of more → ⊥
no_open_line drops [] bytes all inside some same = absurd (omega (arith, ap (λ (bs : List ℕ). length bs) same))
no_open_line drops (entry ∷ more) bytes all inside some same =
    let split = split_once 10 bytes [] (entry_text entry) (10 ∷ lines_of more) inside (entry_lacks 10 entry (omega arith) (entries_parts drops entry more all).0) tt refl (append-nil bytes ∙ same) in
    let end = split.1 in
    cc

-- nor one with which the words are too many
no_long_line : (drops : Bool) (more : List LogEntry) (entry : LogEntry) (behind : List ℕ) → IsTrue (list_all (has_line drops) more) → has_line drops entry ≡ true →
    entry_text entry ++ 10 ∷ behind ≡ lines_of more → entry_words entry ≤ log_words more
no_long_line drops [] entry behind all has same = absurd (not_empty (entry_text entry) behind (sym same))
no_long_line drops (first ∷ more) entry behind all has same =
    let one = (and_parts (is_entry entry) (drops || is_lemma entry) has).0 in
    let other = (entries_parts drops first more all).0 in
    let is = entry_once entry first one other (split_once 10 (entry_text entry) (10 ∷ behind) (entry_text first) (10 ∷ lines_of more) (entry_lacks 10 entry (omega arith) one) (entry_lacks 10 first (omega arith) other) refl refl same).0 in
    omega (arith, ap entry_words is, sum_by-cons entry_words first more)

-- the lines of a log have no fault
pub no_fault : (drops : Bool) (text : List ℕ) (log : List LogEntry) (fault : LogFault) → StandsFor drops text log → IsFirstFault drops text fault → fault ≡ faults.NoMemory
no_fault drops text log (faults.BadLine line) stands fault =
    let next = goes_on_with drops log fault.before (fault.bytes ++ 10 ∷ fault.behind) stands.entries fault.at.entries (sym stands.lines ∙ fault.at.is) in
    absurd (no_bad_line drops next.more fault.bytes fault.behind (all_of_more drops log fault.before next.more stands.entries next.is) fault.whole next.lines fault.bad)
no_fault drops text log (faults.Truncated line) stands fault =
    let next = goes_on_with drops log fault.before fault.bytes stands.entries fault.at.entries (sym stands.lines ∙ fault.at.is) in
    absurd (no_open_line drops next.more fault.bytes (all_of_more drops log fault.before next.more stands.entries next.is) fault.inside fault.some next.lines)
no_fault drops text log (faults.TooLong line) stands fault =
    let next = goes_on_with drops log fault.before (entry_text fault.entry ++ 10 ∷ fault.behind) stands.entries fault.at.entries (sym stands.lines ∙ fault.at.is) in
    let long = no_long_line drops next.more fault.entry fault.behind (all_of_more drops log fault.before next.more stands.entries next.is) fault.here next.lines in
    absurd (omega (arith, long, fault.many, stands.few, words_of_more log fault.before next.more next.is))
no_fault drops text log faults.NoMemory stands fault = refl
