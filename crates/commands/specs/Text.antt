-- What is printed: the lines of an outcome, and the line of a fault.
use Rattle.std.specs.Prelude.{Bool, true, false, ℕ, suc, List, [], ◌∷◌, ◌++◌, length, Option, None, Some, codes, decimal}
use Rattle.std.specs.List.{flat_map}
use Rattle.cert_theory.specs.declared.answer.CertAnswer.{CertAnswer}
use Rattle.cert_theory.specs.declared.answer.CertAnswer.TheVariants.{Passed, Refused}
use Rattle.cert_theory.specs.declared.answer.CertReason.{CertReason}
use Rattle.cert_theory.specs.declared.answer.CertReason.TheVariants as certs
use Rattle.clauses.specs.Logs.{lemmas}
use Rattle.findings.specs.Columns.{ShowColumns}
use Rattle.findings.specs.declared.entry.FindingEntry.{FindingEntry}
use Rattle.findings.specs.declared.recording.Recorded.{Recorded}
use Rattle.findings.specs.declared.recording.Recorded.TheVariants.{Judged, TooLong}
use Rattle.netlist.specs.Valuations.{bit}
use Rattle.netlist.specs.declared.run.Run.{Run}
use Rattle.prover.specs.declared.finding.Finding.{Finding}
use Rattle.prover.specs.declared.finding.Finding.TheVariants as findings
use Rattle.psl_base.specs.declared.place.Place.{Place}
use Rattle.psl_tree.specs.declared.directive.Kind.{Kind}
use Rattle.psl_tree.specs.declared.directive.Kind.TheVariants.{Assert, Assume, Cover}
use Rattle.psl_tree.specs.declared.name.Name.{Name}
use Rattle.commands.specs.Rows.{fault_words}
use Rattle.commands.specs.declared.outcome.CheckedCert.{CheckedCert}
use Rattle.commands.specs.declared.outcome.Fault.{Fault}
use Rattle.commands.specs.declared.outcome.Line.{Line}
use Rattle.commands.specs.declared.outcome.Outcome.{Outcome}
use Rattle.commands.specs.declared.outcome.Settled.{Settled}
use Rattle.commands.specs.declared.outcome.Settled.TheVariants.{Before, At}
use Rattle.commands.specs.declared.outcome.Outcome.TheVariants.{Nothing, Wave, Findings, Checked, Shown, Made, Replayed}
use Rattle.replay.specs.declared.answer.Replay.{Replay}
use Rattle.replay.specs.declared.answer.Replay.TheVariants as replays
use Rattle.wave_judge.specs.Levels.{level_of}
use Rattle.wave_judge.specs.declared.verdict.Level.{Level}
use Rattle.wave_judge.specs.declared.verdict.Level.TheVariants.{HoldsStrongly, Holds, Pending, Fails}
use Rattle.wave_judge.specs.declared.verdict.Verdict.{Verdict}

-- the end of a line
abbrev pub line_feed : List ℕ
line_feed = 10 ∷ []

abbrev pub kind_word : Kind → List ℕ
kind_word Assert = codes "assert"
kind_word Assume = codes "assume"
kind_word Cover = codes "cover"

abbrev pub level_words : Level → List ℕ
level_words HoldsStrongly = codes "holds strongly"
level_words Holds = codes "holds"
level_words Pending = codes "pending"
level_words Fails = codes "fails"

abbrev pub answer_word : Bool → List ℕ
answer_word true = codes "yes"
answer_word false = codes "no"

-- a blank and the label, where there is one
abbrev pub label_part : Option (List ℕ) → List ℕ
label_part None = []
label_part (Some label) = codes " " ++ label

-- a directive's head: its kind, its number and its label
abbrev pub head : Kind → ℕ → Option (List ℕ) → List ℕ
head kind number label = kind_word kind ++ codes " " ++ decimal number ++ label_part label ++ codes ": "

-- in which views a verdict holds
abbrev pub answers_line : Verdict → List ℕ
answers_line verdict =
    level_words (level_of verdict.weak verdict.neutral verdict.strong)
    ++ codes " (weak " ++ answer_word verdict.weak
    ++ codes ", neutral " ++ answer_word verdict.neutral
    ++ codes ", strong " ++ answer_word verdict.strong
    ++ codes ")" ++ line_feed

-- a verdict's line
abbrev pub verdict_line : Verdict → List ℕ
verdict_line verdict = head verdict.kind verdict.number verdict.label ++ answers_line verdict

-- the line that says from where on a verdict is settled
abbrev pub beginning_line : Settled → List ℕ
beginning_line Before = codes "  settled before the first sample" ++ line_feed
beginning_line (At sample time line) =
    codes "  settled at sample " ++ decimal sample ++ codes " time " ++ decimal time ++ codes " line " ++ decimal line ++ line_feed

-- the same, and nothing where it is not
abbrev pub settled_line : Option Settled → List ℕ
settled_line None = []
settled_line (Some settled) = beginning_line settled

-- each verdict's line, and behind it from where on it is settled, by a list in the order of the verdicts
abbrev pub settled_lines : List Verdict → List (Option Settled) → List ℕ
settled_lines [] settled = []
settled_lines (verdict ∷ verdicts) [] = verdict_line verdict ++ settled_lines verdicts []
settled_lines (verdict ∷ verdicts) (place ∷ places) = verdict_line verdict ++ settled_line place ++ settled_lines verdicts places

-- the lines of verdicts, where it may be asked from where on they are settled
abbrev pub judged_text : List Verdict → Option (List (Option Settled)) → List ℕ
judged_text verdicts None = flat_map verdict_line verdicts
judged_text verdicts (Some settled) = settled_lines verdicts settled

-- the line that says where a recording leaves a netlist, if it does
abbrev pub replay_line : Replay → ℕ → List ℕ
replay_line replays.Path samples = codes "replay: path samples " ++ decimal samples ++ line_feed
replay_line (replays.Leaves sample signal name) samples =
    codes "replay: leaves at sample " ++ decimal sample ++ codes " signal " ++ name ++ line_feed

-- the line of what a directive means
abbrev pub meaning_line : Line → List ℕ
meaning_line line = head line.kind line.number line.label ++ line.text ++ codes " obligations " ++ decimal line.obligations ++ line_feed

-- the line that says what was made: from which seed, how many samples, in how many bytes
abbrev pub made_line : ℕ → ℕ → ℕ → List ℕ
made_line seed samples bytes = codes "gen " ++ decimal seed ++ codes " " ++ decimal samples ++ codes " bytes " ++ decimal bytes ++ line_feed

-- the value of a signal in a valuation, behind its name
abbrev pub digit : Bool → List ℕ
digit true = codes "1"
digit false = codes "0"

abbrev pub value_part : List Bool → Name → List ℕ
value_part valuation column = codes " " ++ column.text ++ codes "=" ++ digit (bit valuation column.signal)

-- the line of a valuation at a place of a part of a run, counted from 0 in the part
abbrev pub valuation_line : List ℕ → List Name → ℕ → List Bool → List ℕ
valuation_line part columns place valuation =
    codes "  " ++ part ++ codes " " ++ decimal place ++ codes ":" ++ flat_map (value_part valuation) columns ++ line_feed

abbrev pub valuation_lines : List ℕ → List Name → ℕ → List (List Bool) → List ℕ
valuation_lines part columns place [] = []
valuation_lines part columns place (valuation ∷ valuations) =
    valuation_line part columns place valuation ++ valuation_lines part columns (suc place) valuations

-- what is said of a directive of which a proof was found: each run satisfies an assertion, and none meets a cover
abbrev pub proved_word : Kind → List ℕ
proved_word Assert = codes "proved"
proved_word Assume = codes "proved"
proved_word Cover = codes "unreachable"

-- and of one of which a run was found: it violates an assertion, and meets a cover
abbrev pub run_word : Kind → List ℕ
run_word Assert = codes "violated"
run_word Assume = codes "violated"
run_word Cover = codes "covered"

-- how long the stem and the loop of a run are
abbrev pub lengths_line : Kind → Run → List ℕ
lengths_line kind run =
    run_word kind ++ codes " stem " ++ decimal (length run.stem) ++ codes " loop " ++ decimal (length run.loop_part) ++ line_feed

-- a run: this line, and then its valuations
abbrev pub run_text : Kind → List Name → Run → List ℕ
run_text kind columns run =
    lengths_line kind run ++ valuation_lines (codes "stem") columns 0 run.stem ++ valuation_lines (codes "loop") columns 0 run.loop_part

-- a path behind which the inputs are held: how long it is, and then its valuations
abbrev pub held_line : Kind → List (List Bool) → List ℕ
held_line kind path = run_word kind ++ codes " stem " ++ decimal (length path) ++ (codes " held" ++ line_feed)

abbrev pub held_text : Kind → List Name → List (List Bool) → List ℕ
held_text kind columns path = held_line kind path ++ valuation_lines (codes "stem") columns 0 path

-- how many lemmas the solver learned
abbrev pub steps_line : ℕ → List ℕ
steps_line steps = codes "undecided steps " ++ decimal steps ++ line_feed

-- that neither a proof nor a run was found, up to a depth and so many visits
abbrev pub depth_line : ℕ → ℕ → List ℕ
depth_line depth visits = codes "undecided depth " ++ decimal depth ++ codes " visits " ++ decimal visits ++ line_feed

-- what a finding says of a directive of this kind, by the columns, the depth and the visits: of a certificate of clauses,
-- how many these are
abbrev pub finding_text : Kind → List Name → ℕ → ℕ → Finding → List ℕ
finding_text kind columns depth visits (findings.Proved certificate) =
    proved_word kind ++ codes " visits " ++ decimal certificate.visits ++ codes " window " ++ decimal certificate.window ++ line_feed
finding_text kind columns depth visits (findings.ProvedReach certificate) =
    proved_word kind ++ codes " visits " ++ decimal certificate.visits ++ codes " clauses " ++ decimal (length certificate.clauses) ++ line_feed
finding_text kind columns depth visits (findings.Violated run) = run_text kind columns run
finding_text kind columns depth visits (findings.Held path end) = held_text kind columns path
finding_text kind columns depth visits (findings.Depth paths) = depth_line depth visits
finding_text kind columns depth visits (findings.DepthReach paths ends) = depth_line depth visits
finding_text kind columns depth visits (findings.Steps query log) = steps_line (lemmas log)
finding_text kind columns depth visits (findings.LogFull query log) = codes "undecided log" ++ line_feed
finding_text kind columns depth visits (findings.Large query) = codes "undecided formula" ++ line_feed

-- what is recorded of a run: the name of the file, how many samples it has and what it says of the directive
abbrev pub judged_lines : List ℕ → ℕ → Verdict → List ℕ
judged_lines name samples verdict =
    codes "  recording " ++ name ++ codes " samples " ++ decimal samples ++ (line_feed ++ codes "  judged ") ++ answers_line verdict

abbrev pub recorded_lines : Option Recorded → List ℕ
recorded_lines None = []
recorded_lines (Some TooLong) = codes "  recording too long" ++ line_feed
recorded_lines (Some (Judged name samples verdict text)) = judged_lines name samples verdict

abbrev pub entry_text : List Name → ℕ → ℕ → FindingEntry → List ℕ
entry_text columns depth visits entry =
    head entry.kind entry.number entry.label ++ finding_text entry.kind columns depth visits entry.finding
    ++ recorded_lines entry.recorded

-- the code and the name of a reason for which a certificate is refused
abbrev pub reason_words : CertReason → List ℕ
reason_words certs.BadHeader = codes "C1 BadHeader"
reason_words certs.BadLine = codes "C2 BadLine"
reason_words certs.WrongAssertion = codes "C3 WrongAssertion"
reason_words certs.LemmaFails = codes "C4 LemmaFails"
reason_words certs.NoEmptyClause = codes "C5 NoEmptyClause"
reason_words certs.EndsInside = codes "C6 EndsInside"
reason_words certs.TrailingBytes = codes "C7 TrailingBytes"
reason_words certs.TooManyLive = codes "C8 TooManyLive"
reason_words certs.BadDrop = codes "C9 BadDrop"
reason_words certs.BadClause = codes "C10 BadClause"

-- what is answered to a certificate
abbrev pub cert_answer : CertAnswer → List ℕ
cert_answer Passed = codes "passed"
cert_answer (Refused reason line) = codes "refused " ++ reason_words reason ++ codes " line " ++ decimal line

abbrev pub checked_line : ℕ → CheckedCert → List ℕ
checked_line number checked = head checked.kind number None ++ cert_answer checked.answer ++ line_feed

-- each valuation that is shown has a value for the signal of each column
abbrev pub IsShowable : Outcome → Type 0
IsShowable (Findings entries columns depth visits) = ShowColumns columns entries
IsShowable _ = Unit {0}

-- the lines of an outcome
abbrev pub text_of : Outcome → List ℕ
text_of Nothing = []
text_of (Wave verdicts settled) = judged_text verdicts settled
text_of (Findings entries columns depth visits) = flat_map (entry_text columns depth visits) entries
text_of (Checked number checked) = checked_line number checked
text_of (Shown lines) = flat_map meaning_line lines
text_of (Replayed answer samples verdicts) = replay_line answer samples ++ flat_map verdict_line verdicts
text_of (Made seed samples bytes verdicts) = made_line seed samples bytes ++ flat_map verdict_line verdicts

-- a name, perhaps with a place, and what is said of it
abbrev pub about : Option (List ℕ) → Option Place → List ℕ → List ℕ
about None _ words = words
about (Some file) None words = file ++ codes ": " ++ words
about (Some file) (Some place) words = file ++ codes ":" ++ decimal place.line ++ codes ":" ++ decimal place.column ++ codes ": " ++ words

-- a fault's line
abbrev pub line_of : Fault → List ℕ
line_of fault = codes "pslc: " ++ about fault.file fault.place (fault_words fault.reason) ++ label_part fault.signal ++ line_feed
