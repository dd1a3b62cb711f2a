-- Obligations in the making, with the negations that are still to be carried out.
use Rattle.std.specs.Prelude.{ℕ, List, map, All}
use Rattle.alternating_theory.specs.Construction.{opposite_obligation}
use Rattle.alternating_theory.specs.Obligations.{Obligation}
use Rattle.alternating_theory.specs.Positive.{OwesWithin}
use Rattle.alternating.specs.Views.{obligation_of}
use Rattle.alternating.specs.declared.pending.Negations.{Negations}
use Rattle.alternating.specs.declared.pending.Negations.TheVariants.{Never, Odd, Even}
use Rattle.alternating.specs.declared.pending.Pending as code

-- an obligation that was negated so often
abbrev pub negated_by : Negations → Obligation → Obligation
negated_by Never obligation = obligation
negated_by Odd obligation = opposite_obligation obligation
negated_by Even obligation = opposite_obligation (opposite_obligation obligation)

-- what the program's obligation is once its negations are carried out
abbrev pub pending_of : code.Pending → Obligation
pending_of pending = negated_by pending.negations (obligation_of pending.obligation)

abbrev pub pendings_of : List code.Pending → List Obligation
pendings_of pendings = map pending_of pendings

-- each number that is owed is at least low and below high
abbrev pub PendingWithin : ℕ → ℕ → List code.Pending → Type 0
PendingWithin low high pendings = All (λ pending. OwesWithin low high (pending_of pending).delta) pendings
