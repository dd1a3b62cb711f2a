-- The parts of a replay, one after the other: the directives, where the recording leaves the netlist, and the verdicts.
use Rattle.std.proofs.Common.{◌≡◌, ap, subst, ℕ, List, [], ◌∷◌, inl, inr}
use Rattle.std.specs.Prelude.{◌⊎◌, Result, Ok, Err}
use Rattle.netlist.specs.Design.{Design}
use Rattle.psl_tree.specs.declared.directive.Directive.{Directive}
use Rattle.replay.specs.Answers.{IsMissing}
use Rattle.replay.specs.declared.answer.Replay.{Replay}
use Rattle.replay.specs.declared.answer.ReplayFault.{ReplayFault}
use Rattle.replay.specs.declared.answer.ReplayFault.TheVariants as faults
use Rattle.commands.proofs.Composing.{reading-among, reading-of-more}
use Rattle.commands.proofs.Staging.{of-text, reading-first, reading-then, reading-value}
use Rattle.commands.specs.Faults.{missing_in, of_none}
use Rattle.commands.specs.Replays.{ReplayReading, ReplayedReading, replayed_of}
use Rattle.commands.specs.Rows.{OfText, cause_of}
use Rattle.commands.specs.Stages.{AndThen, IsOfFiles, IsReading, TextFails}
use Rattle.commands.specs.Waves.{DirectivesReading, JudgeReading}
use Rattle.commands.specs.declared.inputs.Circuit.{Circuit}
use Rattle.commands.specs.declared.outcome.Fault.{Fault}
use Rattle.commands.specs.declared.reason.Reason.TheVariants.{NoMemory}
use Rattle.commands.specs.declared.replayed.Replayed.{Replayed}
use Rattle.vcd_reader.specs.Sampled.{Sampled}
use Rattle.wave_judge.specs.declared.verdict.Verdict.{Verdict}

module _ (unit name : List ℕ) (circuit : Circuit) (recording : Sampled) where
  abbrev names : List (List ℕ)
  names = unit ∷ name ∷ []

  abbrev First : Result (List Directive) Fault → Type 0
  First = DirectivesReading unit circuit.tree recording.names

  abbrev Second : Result Replay Fault → Type 0
  Second = ReplayReading name circuit.netlist recording

  abbrev Third : List Directive → Result (List Verdict) Fault → Type 0
  Third directives = JudgeReading unit recording directives

  abbrev Last : Replay → List Directive → Result Replayed Fault → Type 0
  Last answer directives = AndThen (Third directives) (λ verdicts result. result ≡ Ok (replayed_of recording answer verdicts))

  abbrev Rest : List Directive → Result Replayed Fault → Type 0
  Rest directives = AndThen Second (λ answer. Last answer directives)

  later : (fault : Fault) → IsOfFiles (name ∷ []) fault → IsOfFiles names fault
  later fault h = inr h

  of-unit : {A : Type 0} (Reading : Result A Fault → Type 0) (result : Result A Fault) → IsReading (unit ∷ []) Reading result → IsReading names Reading result
  of-unit Reading result r = reading-of-more (unit ∷ []) (name ∷ []) Reading result r

  of-recording : {A : Type 0} (Reading : Result A Fault → Type 0) (result : Result A Fault) → IsReading (name ∷ []) Reading result → IsReading names Reading result
  of-recording Reading result r = reading-among (name ∷ []) names later Reading result r

  pub no-directives : (fault : Fault) → IsReading (unit ∷ []) First (Err fault) → IsReading names (ReplayedReading unit name circuit recording) (Err fault)
  no-directives fault first = reading-first First Rest names fault (of-unit First (Err fault) first)

  module _ (directives : List Directive) (first : IsReading (unit ∷ []) First (Ok directives)) where
    pub no-replay : (fault : Fault) → IsReading (name ∷ []) Second (Err fault) → IsReading names (ReplayedReading unit name circuit recording) (Err fault)
    no-replay fault second =
        reading-then First Rest names directives (Err fault) (of-unit First (Ok directives) first)
        (reading-first Second (λ answer. Last answer directives) names fault (of-recording Second (Err fault) second))

    module _ (answer : Replay) (second : IsReading (name ∷ []) Second (Ok answer)) where
      pub no-verdicts : (fault : Fault) → IsReading (unit ∷ []) (Third directives) (Err fault) → IsReading names (ReplayedReading unit name circuit recording) (Err fault)
      no-verdicts fault third =
          reading-then First Rest names directives (Err fault) (of-unit First (Ok directives) first)
          (reading-then Second (λ answer. Last answer directives) names answer (Err fault) (of-recording Second (Ok answer) second)
          (reading-first (Third directives) (λ verdicts result. result ≡ Ok (replayed_of recording answer verdicts)) names fault (of-unit (Third directives) (Err fault) third)))

      pub all-replayed : (verdicts : List Verdict) → IsReading (unit ∷ []) (Third directives) (Ok verdicts)
          → IsReading names (ReplayedReading unit name circuit recording) (Ok (replayed_of recording answer verdicts))
      all-replayed verdicts third =
          reading-then First Rest names directives (Ok (replayed_of recording answer verdicts)) (of-unit First (Ok directives) first)
          (reading-then Second (λ answer. Last answer directives) names answer (Ok (replayed_of recording answer verdicts)) (of-recording Second (Ok answer) second)
          (reading-value (Third directives) (replayed_of recording answer) names verdicts (of-unit (Third directives) (Ok verdicts) third)))

-- a signal that is missing is a fault of the recording
missing-cause : (name : List ℕ) (signal : List ℕ) (fault : Fault) → fault ≡ missing_in name signal → cause_of fault.reason ≡ OfText
missing-cause name signal fault e = ap (λ (f : Fault). cause_of f.reason) e

moved-missing : (design : Design) (recording : Sampled) (fault : ReplayFault) (signal : List ℕ) → fault ≡ faults.MissingSignal signal → IsMissing design recording fault
    → IsMissing design recording (faults.MissingSignal signal)
moved-missing design recording fault signal e h = subst (IsMissing design recording) e h

pub missing-fails : (name : List ℕ) (design : Design) (recording : Sampled) (cause : ReplayFault) (fault : Fault) → IsMissing design recording cause
    → (fault ≡ of_none NoMemory) ⊎ ((signal : List ℕ) × (cause ≡ faults.MissingSignal signal) × (fault ≡ missing_in name signal))
    → IsReading (name ∷ []) (ReplayReading name design recording) (Err fault)
missing-fails name design recording cause fault missing told = record { gives = tt; refuses = by told }
  where
    by : (fault ≡ of_none NoMemory) ⊎ ((signal : List ℕ) × (cause ≡ faults.MissingSignal signal) × (fault ≡ missing_in name signal))
        → TextFails (name ∷ []) (λ f. ReplayReading name design recording (Err f)) fault
    by (inl e) = inl e
    by (inr (signal, is, e)) = inr record {
      cause = missing-cause name signal fault e;
      file = inl (of-text name fault (missing-cause name signal fault e) (ap (λ (f : Fault). f.file) e)
          (λ other. absurd (other (ap (λ (f : Fault). f.reason) e))));
      refusal = (signal, moved-missing design recording cause signal is missing, e);
    }
