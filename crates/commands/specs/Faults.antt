-- Faults, with the file and the place that they are of, or without.
use Rattle.std.specs.Prelude.{List, ℕ, Option, Result, Ok, Err, None, Some}
use Rattle.psl_base.specs.declared.place.Place.{Place}
use Rattle.commands.specs.declared.outcome.Fault.{Fault}
use Rattle.commands.specs.declared.reason.Diagnostic.{Diagnostic}
use Rattle.commands.specs.declared.reason.Reason.{Reason}
use Rattle.commands.specs.declared.reason.Reason.TheVariants.{MissingSignal}

-- what is said at a place of a file
abbrev pub at : Reason → Place → Diagnostic
at reason place = record { reason = reason; place = Some place }

-- what is said of no place
abbrev pub whole : Reason → Diagnostic
whole reason = record { reason = reason; place = None }

-- the fault that a file has by what is said of it
abbrev pub fault_in : List ℕ → Diagnostic → Fault
fault_in name diagnostic = record { reason = diagnostic.reason; file = Some name; place = diagnostic.place; signal = None }

-- a fault of a whole file
abbrev pub of_file : Reason → List ℕ → Fault
of_file reason name = fault_in name (whole reason)

-- the fault of a recording that does not have a signal of this name
abbrev pub missing_in : List ℕ → List ℕ → Fault
missing_in name signal = record { reason = MissingSignal; file = Some name; place = None; signal = Some signal }

-- a fault of no file
abbrev pub of_none : Reason → Fault
of_none reason = record { reason = reason; file = None; place = None; signal = None }

-- the fault of a result, where it has one
abbrev pub fault_of : {A : Type 0} → Result A Fault → Option Fault
fault_of (Ok _) = None
fault_of (Err fault) = Some fault
