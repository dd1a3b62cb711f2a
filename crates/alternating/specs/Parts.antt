-- The program's parts as plain data.
use Rattle.std.specs.Prelude.{ℕ}
use Rattle.alternating_theory.specs.Construction.{Part}
use Rattle.alternating_theory.specs.Positive.{OwesWithin}
use Rattle.alternating.specs.Pending.{pending_of, pendings_of, PendingWithin}
use Rattle.alternating.specs.declared.part.Part as code

abbrev pub part_of_code : code.Part → Part
part_of_code part = record { start = pending_of part.start; rest = pendings_of part.rest.items }

-- each number that the start and the rest owe is at least low and below high
abbrev pub PartWithin : ℕ → ℕ → code.Part → Type 0
PartWithin low high part = OwesWithin low high (pending_of part.start).delta × PendingWithin low high part.rest.items
