-- What is read of a file whose content a shelf tells.
use Rattle.std.specs.Prelude.{◌≡◌, ℕ, ◌≤◌, List, length, Some, Result, Err}
use Rattle.psl_base.specs.Places.{file_limit}
use Rattle.psl_base.specs.Shelf.{Contents, ShelfState}
use Rattle.netlist.specs.Design.{Design}
use Rattle.blif_model.specs.declared.fault.BlifFault.{BlifFault}
use Rattle.blif_model.specs.declared.fault.BlifFault.TheVariants.{TooLong, ReadFault, NoMemory}
use Rattle.blif_reader.specs.Meaning.{IsReading}

-- where it is told, the name is there, its content is no longer than a file may be, and this is what it says: a
-- netlist, or its first fault
abbrev pub Says : ShelfState → List ℕ → Result Design BlifFault → Type 0
Says shelf name read =
    (contents : Contents) → shelf.told ≡ Some contents →
    (content : List ℕ) × (contents name ≡ Some content) × (length content ≤ file_limit) × IsReading content read

-- a fault of the text is the first one of what the shelf tells; the other faults are told elsewhere
abbrev pub IsFirstFault : ShelfState → List ℕ → BlifFault → Type 0
IsFirstFault shelf name TooLong = Unit {0}
IsFirstFault shelf name ReadFault = Unit {0}
IsFirstFault shelf name NoMemory = Unit {0}
IsFirstFault shelf name found = Says shelf name (Err found)

-- why a text that was read is not answered: its first fault, or memory was refused
abbrev pub IsReadFault : List ℕ → BlifFault → Type 0
IsReadFault bytes NoMemory = Unit {0}
IsReadFault bytes TooLong = ⊥
IsReadFault bytes ReadFault = ⊥
IsReadFault bytes found = IsReading bytes (Err found)
