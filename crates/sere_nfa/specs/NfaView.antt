-- What contracts see of the program's automaton, and what it keeps.
use Rattle.psl_tree.specs.SequenceAutomata.{Automaton, IsSound}
use Rattle.sere_nfa.specs.Marking.{MarksAlive}
use Rattle.sere_nfa.specs.Views.{states_of_code}
use Rattle.sere_nfa.specs.declared.nfa.Nfa.TheInside.{Inside}

abbrev pub automaton_of : Inside → Automaton
automaton_of nfa = record { initial = nfa.initial; states = states_of_code nfa.states.items }

-- all its numbers are those of its states, and the marks say from which of them a final state is reached
pub record IsWhole (nfa : Inside) : Type 0 where
  pub sound : IsSound (automaton_of nfa)
  pub marked : MarksAlive (states_of_code nfa.states.items) nfa.alive
