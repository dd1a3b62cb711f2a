-- The values of gates, and the states whose bits they are.
use Rattle.std.specs.Prelude.{◌≡◌, ℕ, Bool as Truth, ◌&&◌, List}
use Rattle.alternating_theory.specs.Obligations.{Automaton}
use Rattle.gates_theory.specs.declared.circuit.Gate.{Gate}
use Rattle.gates_theory.specs.declared.circuit.Gate.TheVariants.{Free, And}
use Rattle.clauses.specs.Models.{Assignment, is_true}
use Rattle.netlist.specs.Design.{Design}
use Rattle.joint_theory.specs.Bits.{state_bits}
use Rattle.joint_theory.specs.States.{AreNeighbours, IsState}
use Rattle.joint_theory.specs.declared.path.JointState.{JointState}

-- the value of a gate, where a free one has a given value
abbrev pub gate_value : Assignment → Truth → Gate → Truth
gate_value values given Free = given
gate_value values given (And first second) = is_true values first && is_true values second

-- two lists are the bits of two joint states of which the second may follow the first
pub record AreBitsOfNeighbours (design : Design) (automaton : Automaton) (visits : ℕ) (bits next : List Truth) : Type 0 where
  pub state : JointState
  pub later : JointState
  pub is : IsState design automaton visits state
  pub is_later : IsState design automaton visits later
  pub neighbours : AreNeighbours design automaton visits state later
  pub bits_are : bits ≡ state_bits design automaton visits state
  pub next_are : next ≡ state_bits design automaton visits later
