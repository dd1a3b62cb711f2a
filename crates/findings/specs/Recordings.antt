-- The recordings of runs that violate assertions or meet covers.
use Rattle.std.specs.Prelude.{◌≡◌, ◌<◌, ◌≤◌, ℕ, Bool, cond, List, [], ◌∷◌, ◌++◌, length, Option, None, Some, codes, decimal, option_map}
use Rattle.findings.specs.declared.recording.Recorded.{Recorded}
use Rattle.findings.specs.declared.recording.Recorded.TheVariants.{Judged, TooLong}
use Rattle.findings.specs.declared.recording.Recordings.{Recordings}
use Rattle.netlist.specs.Design.{Design}
use Rattle.netlist.specs.declared.run.Run.{Run}
use Rattle.prover.specs.declared.finding.Finding.{Finding}
use Rattle.prover.specs.declared.finding.Finding.TheVariants as findings
use Rattle.prover.specs.declared.task.Task.{Task}
use Rattle.prover_held.specs.Held.{last_of}
use Rattle.psl_base.specs.Places.{file_limit}
use Rattle.psl_tree.specs.Atoms.{AtomsOfFormula}
use Rattle.psl_tree.specs.Counts.{formula_size}
use Rattle.psl_tree.specs.Names.{AtomInRange}
use Rattle.psl_tree.specs.Trees.{formula_of}
use Rattle.psl_tree.specs.declared.counts.TheConstants.{MOST_CONSTRUCTORS}
use Rattle.psl_tree.specs.declared.directive.Directive.{Directive}
use Rattle.trace.specs.Trace.{trace_text}
use Rattle.trace_buses.specs.Buses.{buses_text}
use Rattle.trace_judge.specs.Verdicts.{IsJudgedUpTo, IsReadable}
use Rattle.wave_judge.specs.Faults.{IsJudgeable}

-- how runs are recorded: the prefix of the names of recordings and whether each bus is one vector in them, and how often a
-- loop is written
abbrev pub Form : Type 0
Form = (List ℕ × Bool) × ℕ

-- the same; none where no recording is wanted
abbrev pub wanted_of : Option Recordings → Option Form
wanted_of recordings = option_map (λ (wanted : Recordings). ((wanted.prefix.now, wanted.buses), wanted.loops)) recordings

-- the file of a recording: `PREFIX.NUMBER.vcd`
abbrev pub recording_name : List ℕ → ℕ → List ℕ
recording_name prefix number = prefix ++ codes "." ++ decimal number ++ codes ".vcd"

-- the text of a recording: the trace of a run, or the one in which each bus is one vector
abbrev pub recorded_text : Design → Run → ℕ → Bool → List ℕ
recorded_text design run loops buses = cond buses (buses_text design run loops) (trace_text design run loops)

-- what is recorded of a run: its trace, how many samples that has and what it says of the directive; or that the trace has
-- more bytes than a file may have. With buses the text is another, of the same samples and values.
abbrev pub IsRecordedRun : Design → Directive → Form → Run → Recorded → Type 0
IsRecordedRun design directive ((prefix, buses), loops) run (Judged name samples verdict text) =
    (name ≡ recording_name prefix directive.number)
    × IsJudgedUpTo file_limit design run loops directive (Some (record { text = trace_text design run loops; samples = samples; verdict = verdict }))
    × (text ≡ recorded_text design run loops buses)
IsRecordedRun design directive ((prefix, buses), loops) run TooLong = file_limit < length (trace_text design run loops)

-- what is recorded of a run, where recordings are wanted
abbrev pub IsRunRecorded : Design → Directive → Option Form → Run → Option Recorded → Type 0
IsRunRecorded design directive None run recorded = recorded ≡ None
IsRunRecorded design directive (Some wanted) run None = ⊥
IsRunRecorded design directive (Some wanted) run (Some recorded) = IsRecordedRun design directive wanted run recorded

-- A path as the stem of a run, and its last valuation as the loop. A trace in which that loop is written no time has
-- exactly the valuations of the path, and the verdict on it is that on their letters, which each run that begins with the
-- path has.
abbrev pub along : List (List Bool) → Run
along path = record { stem = path; loop_part = last_of path ∷ [] }

-- the same form of recordings, in which no loop is written
abbrev pub unlooped : Option Form → Option Form
unlooped wanted = option_map (λ (form : Form). (form.0, 0)) wanted

-- what is recorded of a finding: something just where it is a run and recordings are wanted; of a run that holds its inputs
-- just the valuations of the finding, however often a loop is to be written
abbrev pub IsRecorded : Design → Directive → Option Form → Finding → Option Recorded → Type 0
IsRecorded design directive wanted (findings.Violated run) recorded = IsRunRecorded design directive wanted run recorded
IsRecorded design directive wanted (findings.Held path end) recorded =
    IsRunRecorded design directive (unlooped wanted) (along path) recorded
IsRecorded design directive wanted (findings.Proved certificate) recorded = recorded ≡ None
IsRecorded design directive wanted (findings.ProvedReach certificate) recorded = recorded ≡ None
IsRecorded design directive wanted (findings.Depth paths) recorded = recorded ≡ None
IsRecorded design directive wanted (findings.DepthReach paths ends) recorded = recorded ≡ None
IsRecorded design directive wanted (findings.Steps query log) recorded = recorded ≡ None
IsRecorded design directive wanted (findings.LogFull query log) recorded = recorded ≡ None
IsRecorded design directive wanted (findings.Large query) recorded = recorded ≡ None

-- a run of a finding, where it is to be recorded, and the directive: the trace can be read, and the directive be judged
pub record CanRecord (task : Task) (loops : ℕ) (run : Run) : Type 0 where
  pub readable : IsReadable task.netlist.now run loops
  pub in_range : AtomsOfFormula (AtomInRange task.netlist.now.names) (formula_of task.directive.now.formula)
  pub small : formula_size (formula_of task.directive.now.formula) ≤ MOST_CONSTRUCTORS
  pub judgeable : IsJudgeable task.directive.now

-- the same, where recordings are wanted
abbrev pub IsRunRecordable : Task → Option Form → Run → Type 0
IsRunRecordable task None run = Unit {0}
IsRunRecordable task (Some (naming, loops)) run = CanRecord task loops run

abbrev pub Recordable : Task → Option Form → Finding → Type 0
Recordable task wanted (findings.Violated run) = IsRunRecordable task wanted run
Recordable task wanted (findings.Held path end) = (0 < length path) × IsRunRecordable task (unlooped wanted) (along path)
Recordable task wanted (findings.Proved certificate) = Unit {0}
Recordable task wanted (findings.ProvedReach certificate) = Unit {0}
Recordable task wanted (findings.Depth paths) = Unit {0}
Recordable task wanted (findings.DepthReach paths ends) = Unit {0}
Recordable task wanted (findings.Steps query log) = Unit {0}
Recordable task wanted (findings.LogFull query log) = Unit {0}
Recordable task wanted (findings.Large query) = Unit {0}
