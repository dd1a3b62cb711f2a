-- The first of faults: the one at the earliest place of the text, and of several at one place the one with the lowest
-- number.
use Rattle.std.specs.Prelude.{◌≡◌, ℕ, Bool as Truth, ◌==◌, ◌&&◌, ◌||◌, nat_lt, List, [], ◌∷◌, IsFalse, if◌then◌else◌, Option, None, Some, All, Contains}
use Rattle.psl_layer_theory.specs.declared.fault.Cause.{Cause}
use Rattle.psl_layer_theory.specs.declared.fault.Cause.TheVariants as causes
use Rattle.psl_layer_theory.specs.declared.fault.Flaw.{Flaw}
use Rattle.psl_layer_theory.specs.declared.fault.LayerFault.{LayerFault}
use Rattle.psl_layer_theory.specs.declared.fault.LayerFault.TheVariants as faults
use Rattle.psl_base.specs.declared.place.Place.{Place}

-- the number of a cause
abbrev pub cause_number : Cause → ℕ
cause_number causes.Kind = 6
cause_number causes.UnknownName = 7
cause_number causes.Ambiguous = 8
cause_number causes.DeclaredTwice = 9
cause_number causes.EmptyRange = 10
cause_number causes.ConstantTooWide = 11

-- one fault goes before another: by line, by column, by number
abbrev pub goes_before : Flaw → Flaw → Truth
goes_before first second =
    nat_lt first.place.line second.place.line
    || ((first.place.line == second.place.line)
    && (nat_lt first.place.column second.place.column
    || ((first.place.column == second.place.column) && nat_lt (cause_number first.cause) (cause_number second.cause))))

-- the first of all faults, or none where there are none
abbrev pub IsFirstFlaw : List Flaw → Option Flaw → Type 0
IsFirstFlaw all None = all ≡ []
IsFirstFlaw all (Some first) = Contains all first × All (λ other. IsFalse (goes_before other first)) all

-- the fault that is named for it
abbrev pub fault_as : Cause → Place → LayerFault
fault_as causes.Kind place = faults.Kind place
fault_as causes.UnknownName place = faults.UnknownName place
fault_as causes.Ambiguous place = faults.Ambiguous place
fault_as causes.DeclaredTwice place = faults.DeclaredTwice place
fault_as causes.EmptyRange place = faults.EmptyRange place
fault_as causes.ConstantTooWide place = faults.ConstantTooWide place

abbrev pub fault_of : Flaw → LayerFault
fault_of flaw = fault_as flaw.cause flaw.place

-- the earlier of two faults, if there are any
abbrev pub earlier : Option Flaw → Option Flaw → Option Flaw
earlier None second = second
earlier (Some first) None = Some first
earlier (Some first) (Some second) = Some (if goes_before second first then second else first)

-- the first of all faults, as a function
abbrev pub first_of : List Flaw → Option Flaw
first_of [] = None
first_of (flaw ∷ more) = earlier (Some flaw) (first_of more)
