-- What it is to make the literal of a meaning behind other nodes.
use Rattle.std.specs.Prelude.{◌≡◌, ℕ, suc, Bool, List, ◌++◌, IsTrue}
use Rattle.clauses.specs.Literals.{is_within}
use Rattle.clauses.specs.Models.{Assignment, is_true}
use Rattle.gates_nodes.specs.declared.cover.Cover.{Cover}
use Rattle.gates_nodes.specs.declared.node.Node.{Node}
use Rattle.gates_nodes.specs.Folding.{Built}
use Rattle.gates_nodes.specs.Nodes.{IsEvaluation, Source, nodes_within, variables_of}

-- the nodes name earlier literals
abbrev pub AreSound : ℕ → List Node → Type 0
AreSound given nodes = IsTrue (nodes_within (suc given) nodes)

-- The old nodes come first, the new ones name earlier literals, the output is one of theirs, and in each evaluation its
-- value is the meaning.
pub record Makes (covers : List Cover) (given : ℕ) (old : List Node) (built : Built) (meaning : Assignment → Bool) : Type 0 where
  pub more : List Node
  pub grown : built.nodes ≡ old ++ more
  pub sound : AreSound given built.nodes
  pub names : IsTrue (is_within (variables_of given built.nodes) built.output)
  pub value : (source : Source) (values : Assignment) → IsEvaluation covers given source values built.nodes
      → is_true values built.output ≡ meaning values
