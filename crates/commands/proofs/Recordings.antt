-- Why no recording is read, by the fault of its reader.
use Rattle.std.proofs.Common.{◌≡◌, refl, ℕ, List, Ok, Err}
use Rattle.std.specs.Prelude.{Result}
use Rattle.psl_base.specs.Places.{file_limit}
use Rattle.psl_base.specs.Shelf.{ShelfState, IsLonger, ReadingFails, SelectsNoOther}
use Rattle.commands.proofs.Sources.{Fails, by_text, by_length, by_device, by_memory}
use Rattle.commands.specs.Diagnostics.{vcd_diagnostic}
use Rattle.vcd_reader.specs.declared.unknown.Unknown.{Unknown}
use Rattle.vcd_reader.specs.Meaning.{reading}
use Rattle.vcd_reader.specs.Sampled.{Sampled}
use Rattle.vcd_reader.specs.Told.{IsFirstFault}
use Rattle.vcd_reader.specs.declared.fault.VcdFault.{VcdFault}
use Rattle.vcd_reader.specs.declared.fault.VcdFault.TheVariants as vcd

abbrev pub IsRecording : Unknown → List ℕ → Sampled → Type 0
IsRecording unknown content sampled = reading unknown content ≡ Ok sampled

abbrev pub IsFault : Unknown → List ℕ → VcdFault → Type 0
IsFault unknown content fault = reading unknown content ≡ Err fault

pub same-cause : {A : Type 0} (a b : VcdFault) (r s : Result A VcdFault) → r ≡ Err a → s ≡ Err b → r ≡ s → a ≡ b
same-cause a b r s p q e = cc

pub recording-fails : (unknown : Unknown) (name : List ℕ) (old new : ShelfState) (cause : VcdFault) → IsFirstFault unknown old name cause → (cause ≡ vcd.TooLong → IsLonger file_limit old name)
    → (cause ≡ vcd.ReadFault → ReadingFails name old new) → (cause ≡ vcd.ReadFault → SelectsNoOther name new)
    → Fails vcd_diagnostic (IsRecording unknown) (IsFault unknown) name old new cause
recording-fails unknown name old new vcd.TooLong first long fails last = by_length refl (long refl)
recording-fails unknown name old new vcd.ReadFault first long fails last = by_device refl (fails refl) (last refl)
recording-fails unknown name old new vcd.NoMemory first long fails last = by_memory refl
recording-fails unknown name old new cause first long fails last = by_text refl first
