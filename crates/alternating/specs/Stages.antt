-- From which states of a sequence's automaton an edge leads on to an end.
use Rattle.std.specs.Prelude.{◌≡◌, ◌+◌, ◌<◌, ◌^◌, ℕ, Bool as Truth, List, length, map}
use Rattle.psl_tree.specs.SequenceAutomata.{Automaton, IsSound}
use Rattle.alternating_theory.specs.Going.{goes_on}

-- the marks say of each state whether an edge leads on from it
abbrev pub GoingOn : Automaton → List Truth → Type 0
GoingOn automaton ongoing = ongoing ≡ map (λ state. goes_on automaton.states state.edges) automaton.states

-- a sequence's automaton, the marks of its states, and the numbers of their obligations from an offset on
pub record IsStage (automaton : Automaton) (ongoing : List Truth) (offset : ℕ) : Type 0 where
  pub sound : IsSound automaton
  pub marked : GoingOn automaton ongoing
  pub one_initial : length automaton.initial ≡ 1
  pub room : offset + length automaton.states < 2 ^ 32
