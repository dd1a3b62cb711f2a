-- No line of a certificate's text is refused where its logs refute the formulas.
use Rattle.std.proofs.Common.{◌≡◌, ◌∙◌, ap, sym, subst, ℕ, ◌+◌, ◌-◌, ◌≤◌, true, false, List, [], ◌∷◌, ◌++◌, length, take, refl, arith}
use Rattle.std.specs.Bool.{IsTrue}
use Rattle.std.specs.List.{All, list_all, list_any}
use Rattle.std.proofs.lemmas.Bool.{and_from, and_parts, false≢true, or_right}
use Rattle.std.proofs.lemmas.List.{append-nil, length-append, take-take, take_at}
use Rattle.std.proofs.lemmas.List.Elements.{All-take, filter-append}
use Rattle.std.proofs.lemmas.List.Folds.{list_all-append, list_any-append}
use Rattle.std.proofs.lemmas.List.Sums.{sum_by-append}
use Rattle.clauses.specs.Logs.{LogEntry, Refutes, entry_words, is_empty_lemma, is_lemma, lemmas, log_words}
use Rattle.clauses.specs.Logs.LogEntry.{Lemma, Forget}
use Rattle.clauses.specs.declared.flat.TheConstants.{MOST_VARIABLES}
use Rattle.clause_text.specs.Lines.{lacks, lemmas_alone}
use Rattle.clause_text.proofs.Once.{all_have_lines, lemmas_have_lines, lemma_words}
use Rattle.cert_theory.specs.Phases.{behind_header}
use Rattle.cert_theory.specs.Phases.Phase.{AtVersion, AtEnd, InSection}
use Rattle.cert_theory.specs.Headers.{HasHeader, IsAsked, IsHeader, MayBe}
use Rattle.cert_theory.specs.Lines.{header_lines, lines_text}
use Rattle.cert_theory.specs.Printed.{cert_text, certificate_lines, header_of, live_of, most_live, printed, section_lines}
use Rattle.cert_theory.specs.Sections.{NamesLive, Queries, Query, drops_in, has_empty}
use Rattle.cert_theory.specs.Texts.{FollowAll, IsPassed, IsRefusal}
use Rattle.cert_theory.specs.declared.answer.CertAnswer.TheVariants.{Passed, Refused}
use Rattle.cert_theory.specs.declared.answer.CertReason.{CertReason}
use Rattle.cert_theory.specs.declared.certificate.Certificate.{Certificate}
use Rattle.cert_theory.specs.declared.header.Asked.{Asked}
use Rattle.cert_theory.specs.declared.header.Field.TheVariants.{Assertion, Live}
use Rattle.cert_theory.specs.declared.header.Form.TheVariants.{Windowed, Clausal}
use Rattle.cert_theory.specs.declared.header.Header.{Header}
use Rattle.cert_theory.specs.declared.header.Section.TheVariants.{Base, Induction}
use Rattle.cert_theory.specs.declared.header.Version.{Version}
use Rattle.cert_theory.specs.declared.header.Version.TheVariants.{One, Two}
use Rattle.cert_theory.proofs.HeaderLines.{header_follows, header_lacks}
use Rattle.cert_theory.proofs.OneAnswer.{one_answer}
use Rattle.cert_text.specs.Evidence.{IsEvidence, IsRefuted}
use Rattle.cert_text.proofs.Alone.{alone_drops, alone_passes}
use Rattle.cert_text.proofs.Counting.{at_most, lemmas_words}
use Rattle.cert_text.proofs.Entries.{refuted_entries}
use Rattle.cert_text.proofs.Following.{IsSound, followed, section_follows, section_whole}
use Rattle.cert_text.proofs.Joining.{all_lines, both_lines, lines_text-append}
use Rattle.cert_text.proofs.Living.{live_below, live_few}

-- the empty lemma is there
ends_of : (before behind : List LogEntry) (hints : List ℕ) → has_empty (before ++ Lemma [] hints ∷ behind) ≡ true
ends_of before behind hints = list_any-append is_empty_lemma before (Lemma [] hints ∷ behind) ∙ or_right (list_any is_empty_lemma before) true refl

ends : (query : Query) (log : List LogEntry) → Refutes query.variables query.clauses log → has_empty log ≡ true
ends query log refutes = ap has_empty refutes.is ∙ ends_of refutes.before refutes.behind refutes.hints

-- nothing in front of another entry is empty
quiet : (log front behind : List LogEntry) (entry : LogEntry) → All (λ e. is_empty_lemma e ≡ false) (take (length log - 1) log) → log ≡ front ++ entry ∷ behind
    → All (λ e. is_empty_lemma e ≡ false) front
quiet log front behind entry last is =
    let size : length log ≡ length front + length (entry ∷ behind) = ap (λ (entries : List LogEntry). length entries) is ∙ length-append front (entry ∷ behind) in
    let within : length front ≤ length log - 1 = omega (arith, size) in
    let begun : take (length front) log ≡ front = ap (take (length front)) is ∙ take_at front (entry ∷ behind) (length front) refl in
    let some = All-take (λ e. is_empty_lemma e ≡ false) (length front) (take (length log - 1) log) last in
    subst (All (λ e. is_empty_lemma e ≡ false)) (take-take (length front) (length log - 1) log within ∙ begun) some

-- the lemmas of a log are few
lemmas_front : (log front behind : List LogEntry) → log ≡ front ++ behind → lemmas front ≤ log_words log
lemmas_front log front behind is = omega (arith, lemmas_words front, ap log_words is, sum_by-append entry_words front behind)

few_lemmas : (query : Query) (log : List LogEntry) → IsRefuted query log → log_words log ≤ MOST_VARIABLES
few_lemmas query log refuted = omega (arith, refuted.words)

-- a log with its drops is sound where as many lemmas may be live as are
pub sound_two : (live : ℕ) (query : Query) (log : List LogEntry) → IsRefuted query log → most_live log ≤ live → IsSound true live query log
sound_two live query log refuted most = record {
  passes = refuted.refutes.all_pass;
  drops = refuted.drops_live;
  lines = all_have_lines log (refuted_entries query log refuted);
  few = λ front behind is. omega (arith, most, live_below query log front behind refuted.drops_live is);
  quiet = λ front behind number is. quiet log front behind (Forget number) refuted.empty_last is;
  ends = ends query log refuted.refutes;
}

-- and so is one without them
no_drop : (log front behind : List LogEntry) (number : ℕ) → IsTrue (list_all is_lemma log) → log ≡ front ++ Forget number ∷ behind → ⊥
no_drop log front behind number all is =
    let whole : IsTrue (list_all is_lemma (front ++ Forget number ∷ behind)) = rw is at all in
    let both = and_parts (list_all is_lemma front) (list_all is_lemma (Forget number ∷ behind)) (sym (list_all-append is_lemma front (Forget number ∷ behind)) ∙ whole) in
    false≢true both.1

lemmas_all : (log : List LogEntry) → IsTrue (list_all is_lemma (lemmas_alone log))
lemmas_all [] = refl
lemmas_all (Lemma literals hints ∷ log) = lemmas_all log
lemmas_all (Forget number ∷ log) = lemmas_all log

ends_alone : (query : Query) (log : List LogEntry) → Refutes query.variables query.clauses log → has_empty (lemmas_alone log) ≡ true
ends_alone query log refutes =
    ap (λ entries. has_empty (lemmas_alone entries)) refutes.is
    ∙ ap has_empty (filter-append is_lemma refutes.before (Lemma [] refutes.hints ∷ refutes.behind))
    ∙ ends_of (lemmas_alone refutes.before) (lemmas_alone refutes.behind) refutes.hints

sound_one : (query : Query) (log : List LogEntry) → IsRefuted query log → IsSound false MOST_VARIABLES query (lemmas_alone log)
sound_one query log refuted =
    let alone = lemmas_alone log in
    record {
      passes = alone_passes query.variables query.clauses log refuted.refutes.all_pass;
      drops = alone_drops (NamesLive query) [] log;
      lines = lemmas_have_lines log (refuted_entries query log refuted);
      few = λ front behind is. omega (arith, live_few query front, lemmas_front alone front behind is, lemma_words log, few_lemmas query log refuted);
      quiet = λ front behind number is. absurd (no_drop alone front behind number (lemmas_all log) is);
      ends = ends_alone query log refuted.refutes;
    }

sound : (version : Version) (certificate : Certificate) (query : Query) (log : List LogEntry) → IsRefuted query log → most_live log ≤ live_of Two certificate
    → IsSound (drops_in (Windowed version)) (live_of version certificate) query (printed (Windowed version) log)
sound One certificate query log refuted most = sound_one query log refuted
sound Two certificate query log refuted most = sound_two (live_of Two certificate) query log refuted most

-- the number of live lemmas may stand in the header
pub few_live : (query : Query) (log : List LogEntry) → IsRefuted query log → most_live log ≤ MOST_VARIABLES
few_live query log refuted = omega (arith, at_most 0 log, lemmas_words log, few_lemmas query log refuted)

live_stands : (version : Version) (certificate : Certificate) (base induction : Query) → IsRefuted base certificate.base → IsRefuted induction certificate.induction
    → MayBe Live (live_of version certificate)
live_stands One certificate base induction first second = record { least = omega arith; most = omega arith }
live_stands Two certificate base induction first second =
    record { least = omega arith; most = omega (arith, few_live base certificate.base first, few_live induction certificate.induction second) }

first_live : (version : Version) (certificate : Certificate) → Windowed version ≡ Windowed One → live_of version certificate ≡ MOST_VARIABLES
first_live version certificate is = let same : version ≡ One = cc in rw same refl

not_clausal : (version : Version) (window : ℕ) → Windowed version ≡ Clausal → window ≡ 1
not_clausal version window is = cc

-- so it is a header
is_header : (asked : Asked) (queries : Queries) (version : Version) (certificate : Certificate) → IsEvidence asked queries certificate → IsHeader (header_of version certificate)
is_header asked queries version certificate evidence = record {
  visits = evidence.visits;
  window = evidence.window;
  live = live_stands version certificate (queries.base certificate.visits certificate.window) (queries.induction certificate.visits certificate.window) evidence.base evidence.induction;
  first = first_live version certificate;
  third = not_clausal version certificate.window;
}

-- the lines of a header lead behind it
pub front_follows : (asked : Asked) (queries : Queries) (number : ℕ) (header : Header) → IsAsked asked number → MayBe Assertion number → IsHeader header
    → FollowAll asked queries AtVersion (header_lines number header) (behind_header header)
front_follows asked queries number header is_asked may is =
    subst (λ (n : ℕ). FollowAll asked queries AtVersion (header_lines n header) (behind_header header)) (sym is_asked.0)
    (header_follows asked queries header (subst (MayBe Assertion) is_asked.0 may) is_asked.1 is)

-- a text that begins with them has the header
pub text_begins : (asked : Asked) (number : ℕ) (header : Header) (text : List ℕ) (lines behind : List (List ℕ)) → IsAsked asked number → MayBe Assertion number → IsHeader header
    → text ≡ lines_text lines → lines ≡ header_lines number header ++ behind → HasHeader asked text header
text_begins asked number header text lines behind is_asked may is text_is lines_are = record {
  number = subst (MayBe Assertion) is_asked.0 may;
  has_claim = is_asked.1;
  numbers = is;
  rest = lines_text behind;
  is = text_is
      ∙ ap lines_text lines_are
      ∙ lines_text-append (header_lines number header) behind
      ∙ ap (λ (n : ℕ). lines_text (header_lines n header) ++ lines_text behind) is_asked.0;
}

-- with which the text begins
pub text_header : (asked : Asked) (queries : Queries) (version : Version) (certificate : Certificate) → IsEvidence asked queries certificate
    → HasHeader asked (cert_text version certificate) (header_of version certificate)
text_header asked queries version certificate evidence =
    text_begins asked certificate.assertion (header_of version certificate) (cert_text version certificate) (certificate_lines version certificate) (both_lines version certificate)
    evidence.is_asked evidence.number (is_header asked queries version certificate evidence) refl (all_lines version certificate)

-- lines have no line feed inside where those of each part have none
pub both_whole : (first second : List (List ℕ)) → IsTrue (list_all (lacks 10) first) → IsTrue (list_all (lacks 10) second) → IsTrue (list_all (lacks 10) (first ++ second))
both_whole first second one other =
    list_all-append (lacks 10) first second ∙ and_from (list_all (lacks 10) first) (list_all (lacks 10) second) one other

pub text_passes : (asked : Asked) (queries : Queries) (version : Version) (certificate : Certificate) → IsEvidence asked queries certificate
    → IsPassed asked queries (cert_text version certificate)
text_passes asked queries version certificate evidence =
    let visits = certificate.visits in
    let window = certificate.window in
    let form = Windowed version in
    let says = header_of version certificate in
    let is = is_header asked queries version certificate evidence in
    let header = header_lines certificate.assertion says in
    let base = section_lines form Base certificate.base in
    let induction = section_lines form Induction certificate.induction in
    let base_sound = sound version certificate (queries.base visits window) certificate.base evidence.base (omega arith) in
    let induction_sound = sound version certificate (queries.induction visits window) certificate.induction evidence.induction (omega arith) in
    let sections =
    followed asked queries (InSection says [] Base []) (InSection says [] Induction []) AtEnd base induction
    (section_follows asked queries says [] Base (printed form certificate.base) base_sound)
    (section_follows asked queries says [] Induction (printed form certificate.induction) induction_sound) in
    let follow : FollowAll asked queries AtVersion (header ++ (base ++ induction)) AtEnd =
    followed asked queries AtVersion (InSection says [] Base []) AtEnd header (base ++ induction)
    (front_follows asked queries certificate.assertion says evidence.is_asked evidence.number is) sections in
    let whole : IsTrue (list_all (lacks 10) (header ++ (base ++ induction))) =
    both_whole header (base ++ induction) (header_lacks certificate.assertion says evidence.number is)
    (both_whole base induction (section_whole (drops_in form) Base (printed form certificate.base) base_sound.lines)
    (section_whole (drops_in form) Induction (printed form certificate.induction) induction_sound.lines)) in (
      header ++ (base ++ induction),
      record {
        is = ap lines_text (all_lines version certificate) ∙ sym (append-nil (lines_text (header ++ (base ++ induction))));
        whole = whole;
        follow = follow;
      },
    )

-- a text that is passed has no refusal
not_refused : (reason : CertReason) (number : ℕ) → Passed ≡ Refused reason number → ⊥
not_refused reason number same = cc

pub passed_none : (asked : Asked) (queries : Queries) (text : List ℕ) → IsPassed asked queries text → (reason : CertReason) (number : ℕ)
    → IsRefusal asked queries text reason number → ⊥
passed_none asked queries text passed reason number refusal =
    not_refused reason number (one_answer asked queries text Passed (Refused reason number) passed refusal)

pub none_refused : (asked : Asked) (queries : Queries) (version : Version) (certificate : Certificate) → IsEvidence asked queries certificate
    → (reason : CertReason) (number : ℕ) → IsRefusal asked queries (cert_text version certificate) reason number → ⊥
none_refused asked queries version certificate evidence reason number refusal =
    passed_none asked queries (cert_text version certificate) (text_passes asked queries version certificate evidence) reason number refusal
