-- Nodes in the making, and what adding to them does.
use Rattle.std.specs.Prelude.{◌≡◌, ℕ, ◌<◌, ℤ, List, Result, IfOk, IfErr, OnOk, IsTrue, All}
use Rattle.clauses.specs.declared.flat.CnfFault.{CnfFault}
use Rattle.clauses.specs.declared.flat.TheConstants.{MOST_VARIABLES}
use Rattle.clauses.specs.Literals.{is_literal, is_within}
use Rattle.gates_nodes.specs.declared.cover.Cover.{Cover}
use Rattle.gates_nodes.specs.declared.node.Node.{Node}
use Rattle.gates_nodes.specs.Folding.{Built}
use Rattle.gates_nodes.specs.Nodes.{variables_of}

-- how many variables are given, the covers that nodes name, and the nodes
pub record Making : Type 0 where
  pub given : ℕ
  pub covers : List Cover
  pub nodes : List Node

-- the same with other nodes
abbrev pub with_nodes : Making → List Node → Making
with_nodes making nodes = record { given = making.given; covers = making.covers; nodes = nodes }

-- a literal of one of the variables that there are
pub record IsOf (making : Making) (number : ℤ) : Type 0 where
  pub within : IsTrue (is_within (variables_of making.given making.nodes) number)
  pub literal : IsTrue (is_literal number)

abbrev pub AreOf : Making → List ℤ → Type 0
AreOf making literals = All (IsOf making) literals

-- The nodes of a literal were added and the result is this literal; or there would be too many variables.
pub record Adds (old new : Making) (built : Built) (result : Result ℤ CnfFault) : Type 0 where
  pub making : OnOk result (new ≡ with_nodes old built.nodes)
  pub output : IfOk result (λ output. output ≡ built.output)
  pub within : IfOk result (λ output. IsTrue (is_within (variables_of new.given new.nodes) output))
  pub literal : IfOk result (λ output. IsTrue (is_literal output))
  pub large : IfErr result (λ fault. fault ≡ CnfFault.TooLarge → MOST_VARIABLES < variables_of old.given built.nodes)

-- literals at all
abbrev pub AreLiterals : List ℤ → Type 0
AreLiterals literals = All (λ literal. IsTrue (is_literal literal)) literals
