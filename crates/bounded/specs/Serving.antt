-- The literals that serve an obligation of a place, as they are made one by one.
use Rattle.std.specs.Prelude.{◌≡◌, ℕ, suc, ◌+◌, ◌*◌, ◌≤◌, nat_lt, cond, List, length}
use Rattle.alternating_theory.specs.Obligations.{Automaton}
use Rattle.gates_builder.specs.Adding.{Making}
use Rattle.gates_nodes.specs.declared.node.Node.{Node}
use Rattle.gates_nodes.specs.Folding.{Built}
use Rattle.gates_nodes.specs.Nodes.{no, variables_of}
use Rattle.bounded.specs.Obligations.{served}
use Rattle.bounded.specs.Places.{place_bits}

-- the literal that serves; a number behind the last obligation is never owed
abbrev pub served_if : Automaton → ℕ → ℕ → ℕ → ℕ → ℕ → List Node → Built
served_if automaton valuations before place number other nodes =
    cond (nat_lt other (length automaton.obligations)) (served automaton valuations before place number other nodes)
    (record { nodes = nodes; output = no 0 })

-- the bits of all places are among the variables, before which none is given
pub record HasPlaces (automaton : Automaton) (valuations before : ℕ) (making : Making) : Type 0 where
  pub given : making.given ≡ 0
  pub many : before + (suc (suc valuations) * place_bits automaton + valuations) ≤ variables_of 0 making.nodes
