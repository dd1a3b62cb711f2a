-- What contracts see of a merged automaton, and what it keeps.
use Rattle.std.specs.Prelude.{◌≡◌, ◌↔◌, ℕ, ◌<◌, List, [], length, map, IsTrue}
use Rattle.psl_tree.specs.SequenceAutomata.{State, Automaton, IsSound, ReachesEnd}
use Rattle.sere_nfa.specs.Views.{edges_of}
use Rattle.lasso_tables.specs.Tables.{value_at}
use Rattle.lasso_judge.specs.declared.merged.MergedState.{MergedState}
use Rattle.lasso_judge.specs.declared.merged.Merged.TheInside.{Inside}

abbrev pub shown_of : MergedState → State
shown_of state = record { is_final = state.is_final; edges = edges_of state.edges }

abbrev pub states_shown : List MergedState → List State
states_shown states = map shown_of states

abbrev pub automaton_of : Inside → Automaton
automaton_of merged = record { initial = []; states = states_shown merged.states.items }

-- edges lead to states, and the marks say from which of these a final state is reached
pub record IsWhole (merged : Inside) : Type 0 where
  pub sound : IsSound (automaton_of merged)
  pub same_length : length merged.alive.items ≡ length merged.states.items
  pub marked : (state : ℕ) → state < length merged.states.items
      → IsTrue (value_at merged.alive.items state) ↔ ReachesEnd (states_shown merged.states.items) state
