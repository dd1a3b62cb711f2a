-- A worked example: the automaton of one obligation that the signal 0 rises at some later place, in the netlist of a
-- latch that takes the negation of its own output.
use Rattle.std.specs.Prelude.{false, [], ◌∷◌}
use Rattle.alternating_theory.specs.Obligations.{Automaton}
use Rattle.alternating_theory.specs.Positive.{Holds, Or, Owed}
use Rattle.psl_tree.specs.Trees.{Test}
use Rattle.psl_tree.specs.declared.atom.Edge.TheVariants.{Rise}

abbrev pub some_rise : Automaton
some_rise = record {
  start = 0;
  obligations = record {
    delta = Or (Holds (Test (record { signal = 0; bit = 0; edge = Rise }))) (Owed 0);
    accepting = false;
    end = false;
    top = false;
    bottom = false;
  } ∷ [];
}
