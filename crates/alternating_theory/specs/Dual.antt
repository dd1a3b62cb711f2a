-- The dual of an automaton: the dual of each obligation, with the same numbers.
use Rattle.std.specs.Prelude.{map}
use Rattle.alternating_theory.specs.Construction.{opposite_obligation}
use Rattle.alternating_theory.specs.Obligations.{Automaton}

abbrev pub opposite_automaton : Automaton → Automaton
opposite_automaton automaton = record { start = automaton.start; obligations = map opposite_obligation automaton.obligations }
