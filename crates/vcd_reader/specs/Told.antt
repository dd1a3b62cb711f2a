-- What is read of a file whose content a shelf tells.
use Rattle.std.specs.Prelude.{◌≡◌, ℕ, ◌≤◌, List, length, Some, Result, Err}
use Rattle.psl_base.specs.Places.{file_limit}
use Rattle.psl_base.specs.Shelf.{Contents, ShelfState}
use Rattle.vcd_reader.specs.declared.fault.VcdFault.{VcdFault}
use Rattle.vcd_reader.specs.declared.fault.VcdFault.TheVariants.{TooLong, ReadFault, NoMemory}
use Rattle.vcd_reader.specs.declared.unknown.Unknown.{Unknown}
use Rattle.vcd_reader.specs.Meaning.{reading}
use Rattle.vcd_reader.specs.Sampled.{Sampled}

-- where it is told, the name is there, its content is no longer than a file may be, and this is what it
-- says where unknown bits read so: a recording, or a first fault
abbrev pub Says : Unknown → ShelfState → List ℕ → Result Sampled VcdFault → Type 0
Says unknown shelf name read =
    (contents : Contents) → shelf.told ≡ Some contents →
    (content : List ℕ) × (contents name ≡ Some content) × (length content ≤ file_limit) × (reading unknown content ≡ read)

-- a fault of the text is the first one of what the shelf tells; the other faults are told elsewhere
abbrev pub IsFirstFault : Unknown → ShelfState → List ℕ → VcdFault → Type 0
IsFirstFault unknown shelf name TooLong = Unit {0}
IsFirstFault unknown shelf name ReadFault = Unit {0}
IsFirstFault unknown shelf name NoMemory = Unit {0}
IsFirstFault unknown shelf name found = Says unknown shelf name (Err found)

-- why a text that was read is not answered: its first fault, or memory was refused
abbrev pub IsReadFault : Unknown → List ℕ → VcdFault → Type 0
IsReadFault unknown bytes NoMemory = Unit {0}
IsReadFault unknown bytes TooLong = ⊥
IsReadFault unknown bytes ReadFault = ⊥
IsReadFault unknown bytes found = reading unknown bytes ≡ Err found
