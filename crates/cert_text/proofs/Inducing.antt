-- No line of the text of a certificate of clauses is refused where its clauses name state bits and its logs refute the
-- formulas.
use Rattle.std.proofs.Common.{◌≡◌, sym, ℕ, ◌≤◌, true, [], ◌++◌, refl, arith}
use Rattle.std.specs.Bool.{IsTrue}
use Rattle.std.specs.List.{list_all}
use Rattle.std.proofs.lemmas.List.{append-nil}
use Rattle.clauses.specs.declared.flat.TheConstants.{MOST_VARIABLES}
use Rattle.clause_text.specs.Lines.{lacks}
use Rattle.cert_theory.specs.Headers.{HasHeader, IsHeader}
use Rattle.cert_theory.specs.Lines.{header_lines, lines_text}
use Rattle.cert_theory.specs.Phases.Phase.{AtVersion, AtEnd, InClauses, InSection}
use Rattle.cert_theory.specs.Printed.{clause_lines, inductive_header, inductive_live, inductive_lines, inductive_text, log_lines_of, most_live, section_lines}
use Rattle.cert_theory.specs.Sections.{Queries}
use Rattle.cert_theory.specs.Texts.{FollowAll, IsPassed}
use Rattle.cert_theory.specs.declared.certificate.InductiveCert.{InductiveCert}
use Rattle.cert_theory.specs.declared.header.Asked.{Asked}
use Rattle.cert_theory.specs.declared.header.Form.TheVariants.{Windowed, Clausal}
use Rattle.cert_theory.specs.declared.header.Section.TheVariants.{Initial, Step, Bad}
use Rattle.cert_theory.specs.declared.header.Version.TheVariants.{One}
use Rattle.cert_theory.proofs.HeaderLines.{header_lacks}
use Rattle.cert_text.specs.Evidence.{IsInductiveEvidence}
use Rattle.cert_text.proofs.Following.{IsSound, clauses_follow, clauses_whole, followed, section_follows, section_whole}
use Rattle.cert_text.proofs.Passing.{both_whole, few_live, front_follows, sound_two, text_begins}

not_windowed : (live : ℕ) → Clausal ≡ Windowed One → live ≡ MOST_VARIABLES
not_windowed live is = cc

module _ (asked : Asked) (queries : Queries) (certificate : InductiveCert) (evidence : IsInductiveEvidence asked queries certificate) where
  initial_few : most_live certificate.initial ≤ MOST_VARIABLES
  initial_few = few_live (queries.initial certificate.visits certificate.clauses) certificate.initial evidence.initial

  step_few : most_live certificate.step ≤ MOST_VARIABLES
  step_few = few_live (queries.step certificate.visits certificate.clauses) certificate.step evidence.step

  bad_few : most_live certificate.bad ≤ MOST_VARIABLES
  bad_few = few_live (queries.bad certificate.visits certificate.clauses) certificate.bad evidence.bad

  is_header : IsHeader (inductive_header certificate)
  is_header = record {
    visits = evidence.visits;
    window = record { least = omega arith; most = omega arith };
    live = record { least = omega arith; most = omega (arith, initial_few, step_few, bad_few) };
    first = not_windowed (inductive_live certificate);
    third = λ is. refl;
  }

  -- with which the text begins
  pub inductive_begins : HasHeader asked (inductive_text certificate) (inductive_header certificate)
  inductive_begins =
      text_begins asked certificate.assertion (inductive_header certificate) (inductive_text certificate) (inductive_lines certificate)
      (clause_lines certificate.clauses ++ log_lines_of certificate) evidence.is_asked evidence.number is_header refl refl

  -- each log with its drops is sound
  initial_sound : IsSound true (inductive_live certificate) (queries.initial certificate.visits certificate.clauses) certificate.initial
  initial_sound =
      sound_two (inductive_live certificate) (queries.initial certificate.visits certificate.clauses) certificate.initial evidence.initial (omega arith)

  step_sound : IsSound true (inductive_live certificate) (queries.step certificate.visits certificate.clauses) certificate.step
  step_sound =
      sound_two (inductive_live certificate) (queries.step certificate.visits certificate.clauses) certificate.step evidence.step (omega arith)

  bad_sound : IsSound true (inductive_live certificate) (queries.bad certificate.visits certificate.clauses) certificate.bad
  bad_sound =
      sound_two (inductive_live certificate) (queries.bad certificate.visits certificate.clauses) certificate.bad evidence.bad (omega arith)

  -- the three sections follow one another
  logs_follow : FollowAll asked queries (InSection (inductive_header certificate) certificate.clauses Initial []) (log_lines_of certificate) AtEnd
  logs_follow =
      let says = inductive_header certificate in
      let clauses = certificate.clauses in
      let initial = section_lines Clausal Initial certificate.initial in
      let step = section_lines Clausal Step certificate.step in
      let bad = section_lines Clausal Bad certificate.bad in
      followed asked queries (InSection says clauses Initial []) (InSection says clauses Step []) AtEnd initial (step ++ bad)
      (section_follows asked queries says clauses Initial certificate.initial initial_sound)
      (followed asked queries (InSection says clauses Step []) (InSection says clauses Bad []) AtEnd step bad
      (section_follows asked queries says clauses Step certificate.step step_sound)
      (section_follows asked queries says clauses Bad certificate.bad bad_sound))

  logs_whole : IsTrue (list_all (lacks 10) (log_lines_of certificate))
  logs_whole =
      let initial = section_lines Clausal Initial certificate.initial in
      let step = section_lines Clausal Step certificate.step in
      let bad = section_lines Clausal Bad certificate.bad in
      both_whole initial (step ++ bad) (section_whole true Initial certificate.initial initial_sound.lines)
      (both_whole step bad (section_whole true Step certificate.step step_sound.lines) (section_whole true Bad certificate.bad bad_sound.lines))

  pub inductive_passes : IsPassed asked queries (inductive_text certificate)
  inductive_passes =
      let says = inductive_header certificate in
      let header = header_lines certificate.assertion says in
      let clauses = clause_lines certificate.clauses in
      let logs = log_lines_of certificate in
      let follow : FollowAll asked queries AtVersion (header ++ (clauses ++ logs)) AtEnd =
      followed asked queries AtVersion (InClauses says []) AtEnd header (clauses ++ logs)
      (front_follows asked queries certificate.assertion says evidence.is_asked evidence.number is_header)
      (followed asked queries (InClauses says []) (InSection says certificate.clauses Initial []) AtEnd clauses logs
      (clauses_follow asked queries says certificate.clauses evidence.bits evidence.within) logs_follow) in
      let whole : IsTrue (list_all (lacks 10) (header ++ (clauses ++ logs))) =
      both_whole header (clauses ++ logs) (header_lacks certificate.assertion says evidence.number is_header)
      (both_whole clauses logs (clauses_whole (queries.width certificate.visits) certificate.clauses evidence.bits evidence.within) logs_whole) in (
        header ++ (clauses ++ logs),
        record { is = sym (append-nil (lines_text (header ++ (clauses ++ logs)))); whole = whole; follow = follow },
      )
