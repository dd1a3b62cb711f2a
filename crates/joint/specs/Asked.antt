-- Which obligations ask for which, as a table.
use Rattle.std.specs.Prelude.{ℕ, Bool as Truth, List, map}
use Rattle.alternating_theory.specs.Obligations.{Automaton}
use Rattle.alternating_theory.specs.Positive.{owes}
use Rattle.joint_theory.specs.Bits.{numbers_of}
use Rattle.joint_theory.specs.States.{delta_of}

-- whether an obligation asks for each one
abbrev pub asked_row : Automaton → ℕ → List Truth
asked_row automaton number = map (owes (delta_of automaton number)) (numbers_of automaton)

-- and so for each obligation
abbrev pub asked_rows : Automaton → List (List Truth)
asked_rows automaton = map (asked_row automaton) (numbers_of automaton)
