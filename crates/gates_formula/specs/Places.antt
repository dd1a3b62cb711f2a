-- The node at a place, its variable and its clauses.
use Rattle.std.specs.Prelude.{ℕ, suc, ◌+◌, ℤ, List, slice_index_or}
use Rattle.gates_nodes.specs.declared.node.Node.{Node}
use Rattle.gates_nodes.specs.declared.node.Node.TheVariants.{Free}
use Rattle.gates_nodes.specs.Clauses.{node_clauses}
use Rattle.gates_builder.specs.Adding.{Making}

abbrev pub node_at : List Node → ℕ → Node
node_at nodes place = slice_index_or nodes place (Free 0 0)

abbrev pub variable_at : Making → ℕ → ℕ
variable_at making place = suc (suc making.given + place)

abbrev pub clauses_at : Making → ℕ → List (List ℤ)
clauses_at making place = node_clauses making.covers making.given (suc making.given + place) (node_at making.nodes place)
