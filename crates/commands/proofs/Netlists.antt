-- Why no netlist is read, by the fault of its reader.
use Rattle.std.proofs.Common.{◌≡◌, refl, ℕ, List, Ok, Err}
use Rattle.std.specs.Prelude.{Result}
use Rattle.blif_model.specs.declared.fault.BlifFault.{BlifFault}
use Rattle.blif_model.specs.declared.fault.BlifFault.TheVariants as blif
use Rattle.blif_reader.specs.Meaning.{IsReading}
use Rattle.blif_reader.specs.Told.{IsFirstFault}
use Rattle.commands.proofs.Sources.{Fails, by_text, by_length, by_device, by_memory}
use Rattle.commands.specs.Diagnostics.{blif_diagnostic}
use Rattle.netlist.specs.Design.{Design}
use Rattle.psl_base.specs.Places.{file_limit}
use Rattle.psl_base.specs.Shelf.{ShelfState, IsLonger, ReadingFails, SelectsNoOther}

abbrev pub IsNetlist : List ℕ → Design → Type 0
IsNetlist content design = IsReading content (Ok design)

abbrev pub IsFault : List ℕ → BlifFault → Type 0
IsFault content fault = IsReading content (Err fault)

pub same-cause : {A : Type 0} (a b : BlifFault) (r s : Result A BlifFault) → r ≡ Err a → s ≡ Err b → r ≡ s → a ≡ b
same-cause a b r s p q e = cc

pub netlist-fails : (name : List ℕ) (old new : ShelfState) (cause : BlifFault) → IsFirstFault old name cause → (cause ≡ blif.TooLong → IsLonger file_limit old name)
    → (cause ≡ blif.ReadFault → ReadingFails name old new) → (cause ≡ blif.ReadFault → SelectsNoOther name new)
    → Fails blif_diagnostic IsNetlist IsFault name old new cause
netlist-fails name old new blif.TooLong first long fails last = by_length refl (long refl)
netlist-fails name old new blif.ReadFault first long fails last = by_device refl (fails refl) (last refl)
netlist-fails name old new blif.NoMemory first long fails last = by_memory refl
netlist-fails name old new cause first long fails last = by_text refl first
