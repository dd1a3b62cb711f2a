-- The lines of a section lead through it, and so do those of clauses.
use Rattle.std.proofs.Common.{◌≡◌, ◌∙◌, ap, sym, subst, ℕ, ℤ, ◌≤◌, Bool, true, false, List, [], ◌∷◌, ◌++◌, map, inl, inr, refl, arith, append_assoc}
use Rattle.std.specs.Bool.{IsTrue}
use Rattle.std.specs.List.{All, list_all}
use Rattle.std.proofs.lemmas.Bool.{and_from, and_parts}
use Rattle.std.proofs.lemmas.List.{append-nil}
use Rattle.std.proofs.lemmas.List.Folds.{list_all-append, list_any_none}
use Rattle.clauses.specs.Literals.{clause_within, clauses_within}
use Rattle.clauses.specs.declared.flat.TheConstants.{MOST_VARIABLES}
use Rattle.clauses.proofs.Within.{within-wider}
use Rattle.clauses.specs.Logs.{LogEntry, AllPass, LemmaPasses, is_empty_lemma, is_entry}
use Rattle.clauses.specs.Logs.LogEntry.{Lemma, Forget}
use Rattle.clauses.proofs.Lives.{each_lemma-at}
use Rattle.clause_text.specs.Lines.{entry_text, has_line, lacks, literals_text}
use Rattle.clause_text.proofs.Once.{entry_lacks, literals_lack}
use Rattle.cert_theory.specs.Phases.{Phase, behind_section}
use Rattle.cert_theory.specs.Phases.Phase.{InClauses, InSection}
use Rattle.cert_theory.specs.Lines.{end_line, initial_line}
use Rattle.cert_theory.specs.Printed.{clause_lines}
use Rattle.cert_theory.specs.Sections.{IsTaken, NamesLive, Queries, Query, drops_in, has_empty, live_lemmas, query_at}
use Rattle.cert_theory.specs.Texts.{FollowAll}
use Rattle.cert_theory.specs.declared.header.Asked.{Asked}
use Rattle.cert_theory.specs.declared.header.Header.{Header}
use Rattle.cert_theory.specs.declared.header.Section.{Section}
use Rattle.cert_theory.specs.declared.header.Section.TheVariants.{Base, Induction, Initial, Step, Bad}
use Rattle.cert_text.specs.Evidence.{DropsLive, EachDrop}
use Rattle.cert_text.proofs.Living.{live_push}

-- lines and others behind them
pub followed : (asked : Asked) (queries : Queries) (from between to : Phase) (lines others : List (List ℕ)) → FollowAll asked queries from lines between
    → FollowAll asked queries between others to → FollowAll asked queries from (lines ++ others) to
followed asked queries from between to [] others first second = subst (λ phase. FollowAll asked queries phase others to) (sym first) second
followed asked queries from between to (line ∷ lines) others first second =
    (first.0, first.1, followed asked queries first.0 between to lines others first.2 second)

-- What the entries are known to meet where drops have lines, or only lemmas do: lemmas pass, drops name live lemmas, no more lemmas are live than may
-- be, and no drop stands behind the empty lemma, which is there.
pub record IsSound (drops_too : Bool) (live : ℕ) (query : Query) (log : List LogEntry) : Type 0 where
  pub passes : AllPass query.variables query.clauses log
  pub drops : DropsLive query log
  pub lines : IsTrue (list_all (has_line drops_too) log)
  pub few : (front behind : List LogEntry) → log ≡ front ++ behind → live_lemmas query front ≤ live
  pub quiet : (front behind : List LogEntry) (number : ℕ) → log ≡ front ++ Forget number ∷ behind → All (λ entry. is_empty_lemma entry ≡ false) front
  pub ends : has_empty log ≡ true

-- what holds of each drop of a log holds of one of them
each_drop-at : (P : List LogEntry → ℕ → Type 0) (before front : List LogEntry) (number : ℕ) (behind : List LogEntry)
    → EachDrop P before (front ++ Forget number ∷ behind) → P (before ++ front) number
each_drop-at P before [] number behind each = rw append-nil each.0
each_drop-at P before (Lemma literals hints ∷ front) number behind each =
    rw append_assoc at (each_drop-at P (before ++ Lemma literals hints ∷ []) front number behind each)
each_drop-at P before (Forget other ∷ front) number behind each =
    rw append_assoc at (each_drop-at P (before ++ Forget other ∷ []) front number behind each.1)

-- an entry is taken behind those in front of it
taken : (header : Header) (query : Query) (log front behind : List LogEntry) (entry : LogEntry) → IsSound (drops_in header.form) header.live query log
    → log ≡ front ++ entry ∷ behind → IsTaken header query front entry
taken header query log front behind (Lemma literals hints) sound is =
    let all : AllPass query.variables query.clauses (front ++ Lemma literals hints ∷ behind) = rw is at sound.passes in
    let pass = each_lemma-at (LemmaPasses query.variables query.clauses) [] front literals hints behind all in
    let with_it = sound.few (front ++ Lemma literals hints ∷ []) behind (is ∙ sym (append_assoc front (Lemma literals hints ∷ []) behind)) in
    (pass, omega (arith, with_it, live_push query front literals hints))
taken header query log front behind (Forget number) sound is =
    let all : DropsLive query (front ++ Forget number ∷ behind) = rw is at sound.drops in (
      list_any_none is_empty_lemma front (sound.quiet front behind number is),
      each_drop-at (NamesLive query) [] front number behind all,
    )

line_has : (drops : Bool) (log front behind : List LogEntry) (entry : LogEntry) → IsTrue (list_all (has_line drops) log)
    → log ≡ front ++ entry ∷ behind → has_line drops entry ≡ true
line_has drops log front behind entry all is =
    let test = has_line drops in
    let whole : IsTrue (list_all test (front ++ entry ∷ behind)) = rw is at all in
    let parts = and_parts (list_all test front) (list_all test (entry ∷ behind)) (sym (list_all-append test front (entry ∷ behind)) ∙ whole) in
    (and_parts (test entry) (list_all test behind) parts.1).0

-- the entries behind some of them
walk : (asked : Asked) (queries : Queries) (header : Header) (clauses : List (List ℤ)) (section : Section) (log before front : List LogEntry)
    → IsSound (drops_in header.form) header.live (query_at queries header clauses section) log → log ≡ before ++ front
    → FollowAll asked queries (InSection header clauses section before) (map entry_text front) (InSection header clauses section (before ++ front))
walk asked queries header clauses section log before [] sound is = ap (InSection header clauses section) (sym (append-nil before))
walk asked queries header clauses section log before (entry ∷ front) sound is =
    let query = query_at queries header clauses section in
    let has = line_has (drops_in header.form) log before front entry sound.lines is in
    let rest = walk asked queries header clauses section log (before ++ entry ∷ []) front sound (is ∙ sym (append_assoc before (entry ∷ []) front)) in (
      InSection header clauses section (before ++ entry ∷ []),
      inl (entry, record { is = refl; has = has }, taken header query log before front entry sound is, refl),
      rw append_assoc at rest,
    )

-- a section, with the line that ends it
pub section_follows : (asked : Asked) (queries : Queries) (header : Header) (clauses : List (List ℤ)) (section : Section) (log : List LogEntry)
    → IsSound (drops_in header.form) header.live (query_at queries header clauses section) log
    → FollowAll asked queries (InSection header clauses section []) (map entry_text log ++ end_line section ∷ []) (behind_section header clauses section)
section_follows asked queries header clauses section log sound =
    followed asked queries (InSection header clauses section []) (InSection header clauses section log) (behind_section header clauses section) (map entry_text log) (end_line section ∷ [])
    (walk asked queries header clauses section log [] log sound refl)
    (behind_section header clauses section, inr (refl, sound.ends, refl), refl)

-- clauses behind some of them
clause_walk : (asked : Asked) (queries : Queries) (header : Header) (before clauses : List (List ℤ)) → queries.width header.visits ≤ MOST_VARIABLES
    → IsTrue (clauses_within (queries.width header.visits) clauses)
    → FollowAll asked queries (InClauses header before) (map literals_text clauses) (InClauses header (before ++ clauses))
clause_walk asked queries header before [] few within = ap (InClauses header) (sym (append-nil before))
clause_walk asked queries header before (clause ∷ clauses) few within =
    let width = queries.width header.visits in
    let parts = and_parts (clause_within width clause) (clauses_within width clauses) within in
    let rest = clause_walk asked queries header (before ++ clause ∷ []) clauses few parts.1 in (
      InClauses header (before ++ clause ∷ []),
      inl (clause, record { is = refl; has = within-wider width MOST_VARIABLES few clause parts.0 }, parts.0, refl),
      rw append_assoc at rest,
    )

-- clauses, with the word behind them
pub clauses_follow : (asked : Asked) (queries : Queries) (header : Header) (clauses : List (List ℤ)) → queries.width header.visits ≤ MOST_VARIABLES
    → IsTrue (clauses_within (queries.width header.visits) clauses)
    → FollowAll asked queries (InClauses header []) (clause_lines clauses) (InSection header clauses Initial [])
clauses_follow asked queries header clauses few within =
    followed asked queries (InClauses header []) (InClauses header clauses) (InSection header clauses Initial []) (map literals_text clauses) (initial_line ∷ [])
    (clause_walk asked queries header [] clauses few within)
    (InSection header clauses Initial [], inr (refl, refl), refl)

-- their lines have no line feed inside
clauses_lack : (width : ℕ) (clauses : List (List ℤ)) → width ≤ MOST_VARIABLES → IsTrue (clauses_within width clauses) → IsTrue (list_all (lacks 10) (map literals_text clauses))
clauses_lack width [] few within = refl
clauses_lack width (clause ∷ clauses) few within =
    let parts = and_parts (clause_within width clause) (clauses_within width clauses) within in
    and_from (lacks 10 (literals_text clause)) (list_all (lacks 10) (map literals_text clauses))
    (literals_lack 10 clause (omega arith) (within-wider width MOST_VARIABLES few clause parts.0)) (clauses_lack width clauses few parts.1)

pub clauses_whole : (width : ℕ) (clauses : List (List ℤ)) → width ≤ MOST_VARIABLES → IsTrue (clauses_within width clauses) → IsTrue (list_all (lacks 10) (clause_lines clauses))
clauses_whole width clauses few within =
    list_all-append (lacks 10) (map literals_text clauses) (initial_line ∷ [])
    ∙ and_from (list_all (lacks 10) (map literals_text clauses)) true (clauses_lack width clauses few within) refl

-- nor do those of a section
entry_lack : (drops : Bool) (log : List LogEntry) → IsTrue (list_all (has_line drops) log) → IsTrue (list_all (lacks 10) (map entry_text log))
entry_lack drops [] all = refl
entry_lack drops (entry ∷ log) all =
    let parts = and_parts (has_line drops entry) (list_all (has_line drops) log) all in
    and_from (lacks 10 (entry_text entry)) (list_all (lacks 10) (map entry_text log)) (entry_lacks 10 entry (omega arith) (and_parts (is_entry entry) _ parts.0).0) (entry_lack drops log parts.1)

end_lacks : (section : Section) → IsTrue (list_all (lacks 10) (end_line section ∷ []))
end_lacks Base = refl
end_lacks Induction = refl
end_lacks Initial = refl
end_lacks Step = refl
end_lacks Bad = refl

pub section_whole : (drops : Bool) (section : Section) (log : List LogEntry) → IsTrue (list_all (has_line drops) log)
    → IsTrue (list_all (lacks 10) (map entry_text log ++ end_line section ∷ []))
section_whole drops section log all =
    list_all-append (lacks 10) (map entry_text log) (end_line section ∷ [])
    ∙ and_from (list_all (lacks 10) (map entry_text log)) (list_all (lacks 10) (end_line section ∷ [])) (entry_lack drops log all) (end_lacks section)
