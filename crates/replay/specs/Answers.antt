-- What is answered of a recording and a netlist.
use Rattle.std.specs.Prelude.{◌≡◌, ℕ, Bool as Truth, List, Option, None, Some}
use Rattle.netlist.specs.Design.{Design}
use Rattle.replay.specs.Leaving.{LeavesFirst}
use Rattle.replay.specs.Recorded.{AreComputed, first_missing}
use Rattle.replay.specs.declared.answer.Replay.{Replay}
use Rattle.replay.specs.declared.answer.Replay.TheVariants as replays
use Rattle.replay.specs.declared.answer.ReplayFault.{ReplayFault}
use Rattle.replay.specs.declared.answer.ReplayFault.TheVariants as faults
use Rattle.trace.specs.Trace.{first_text}
use Rattle.vcd_reader.specs.Sampled.{Sampled}

-- an answer says where a recording leaves a netlist, if it does
abbrev pub Tells : Design → Option (ℕ × ℕ) → Replay → Type 0
Tells design None answer = answer ≡ replays.Path
Tells design (Some (sample, signal)) answer = answer ≡ replays.Leaves sample signal (first_text design.names signal)

-- all inputs and latches are recorded, and this is the answer by the valuations that they give
pub record IsReplay (design : Design) (recording : Sampled) (answer : Replay) : Type 0 where
  pub none : first_missing design recording ≡ None
  pub valuations : ℕ → List Truth
  pub computed : AreComputed design recording valuations
  pub found : Option (ℕ × ℕ)
  pub first : LeavesFirst design recording valuations found
  pub tells : Tells design found answer

-- a fault names the first input or latch that is not recorded
abbrev pub IsMissing : Design → Sampled → ReplayFault → Type 0
IsMissing design recording (faults.MissingSignal name) = (signal : ℕ) × (first_missing design recording ≡ Some signal) × (name ≡ first_text design.names signal)
IsMissing design recording faults.NoMemory = Unit {0}
