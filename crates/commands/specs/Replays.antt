-- What `replay UNIT NETLIST RECORDING` gives: where a recording leaves a netlist, if it does, and the verdicts of a text on
-- the recording.
use Rattle.std.specs.Prelude.{◌≡◌, ℕ, List, length, Result, Ok, Err}
use Rattle.netlist.specs.Design.{Design}
use Rattle.psl_base.specs.Shelf.{Contents}
use Rattle.replay.specs.Answers.{IsMissing, IsReplay}
use Rattle.replay.specs.declared.answer.Replay.{Replay}
use Rattle.replay.specs.declared.answer.ReplayFault.TheVariants as faults
use Rattle.commands.specs.Faults.{missing_in}
use Rattle.commands.specs.Stages.{AndThen, Then}
use Rattle.commands.specs.Waves.{CircuitStage, DirectivesReading, JudgeReading, RecordingStage}
use Rattle.commands.specs.declared.inputs.Circuit.{Circuit}
use Rattle.commands.specs.declared.outcome.Fault.{Fault}
use Rattle.commands.specs.declared.replayed.Replayed.{Replayed}
use Rattle.vcd_reader.specs.Sampled.{Sampled}
use Rattle.wave_judge.specs.declared.verdict.Verdict.{Verdict}
use Rattle.vcd_reader.specs.declared.unknown.Unknown.TheVariants.{Zero}

-- where a recording leaves a netlist, if it does; or the first input or latch that it does not have
abbrev pub ReplayReading : List ℕ → Design → Sampled → Result Replay Fault → Type 0
ReplayReading name design recording (Ok answer) = IsReplay design recording answer
ReplayReading name design recording (Err fault) =
    (signal : List ℕ) × IsMissing design recording (faults.MissingSignal signal) × (fault ≡ missing_in name signal)

-- what was found out of a recording
abbrev pub replayed_of : Sampled → Replay → List Verdict → Replayed
replayed_of recording answer verdicts = record { replay = answer; samples = length recording.samples; verdicts = verdicts }

-- the directives over the names of the recording, then the replay, and then the verdicts
abbrev pub ReplayedReading : List ℕ → List ℕ → Circuit → Sampled → Result Replayed Fault → Type 0
ReplayedReading unit name circuit recording =
    AndThen (DirectivesReading unit circuit.tree recording.names) (λ directives.
    AndThen (ReplayReading name circuit.netlist recording) (λ answer.
    AndThen (JudgeReading unit recording directives) (λ verdicts result. result ≡ Ok (replayed_of recording answer verdicts))))

-- `replay UNIT NETLIST RECORDING`
abbrev pub ReplayStage : List ℕ → List ℕ → List ℕ → Contents → Result Replayed Fault → Type 0
ReplayStage unit netlist name =
    Then (CircuitStage unit netlist) (λ circuit. Then (RecordingStage Zero name) (λ recording files. ReplayedReading unit name circuit recording))
