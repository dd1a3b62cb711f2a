-- Nodes over variables: so many given ones, then one that is true, and then one for each node.
use Rattle.std.specs.Prelude.{◌≡◌, ℕ, suc, ◌+◌, ℤ, pos, negsuc, Bool, true, not, ◌&&◌, List, [], ◌∷◌, map, length, slice_index_or, IsTrue}
use Rattle.std.specs.List.{list_any}
use Rattle.clauses.specs.Literals.{is_within, clause_within}
use Rattle.clauses.specs.Models.{Assignment, is_true}
use Rattle.gates_theory.specs.Circuits.{same}
use Rattle.netlist.specs.Valuations.{fits_row}
use Rattle.netlist.specs.declared.rows.Mark.{Mark}
use Rattle.gates_nodes.specs.declared.cover.Cover.{Cover}
use Rattle.gates_nodes.specs.declared.node.Node.{Node}
use Rattle.gates_nodes.specs.declared.node.Node.TheVariants.{Free, And, Lut}

-- the literal that is true, behind so many given variables, and its negation
abbrev pub yes : ℕ → ℤ
yes given = pos (suc given)

abbrev pub no : ℕ → ℤ
no given = negsuc given

-- how many variables there are with nodes
abbrev pub variables_of : ℕ → List Node → ℕ
variables_of given nodes = suc (given + length nodes)

-- the cover of a number; behind the last one, the cover that is always false
abbrev pub no_cover : Cover
no_cover = record { on = []; off = [] ∷ [] }

abbrev pub cover_at : List Cover → ℕ → Cover
cover_at covers number = slice_index_or covers number no_cover

-- whether some row fits values
abbrev pub fits_some : List (List Mark) → List Bool → Bool
fits_some rows values = list_any (λ row. fits_row row values) rows

-- just one side of a cover fits each vector of values
pub record IsExact (cover : Cover) : Type 0 where
  pub one_side : (a b c d : Bool) → fits_some cover.on (a ∷ b ∷ c ∷ d ∷ []) ≡ not (fits_some cover.off (a ∷ b ∷ c ∷ d ∷ []))

-- a node names literals of the first so many variables, and nodes that follow so many variables those of earlier ones
abbrev pub node_within : ℕ → Node → Bool
node_within before (Free frame bit) = true
node_within before (And first second) = is_within before first && is_within before second
node_within before (Lut cover a b c d) = clause_within before (a ∷ b ∷ c ∷ d ∷ [])

abbrev pub nodes_within : ℕ → List Node → Bool
nodes_within before [] = true
nodes_within before (node ∷ nodes) = node_within before node && nodes_within (suc before) nodes

-- What the value of a free node is, by what it stands for and by the value that an assignment gives it: just that, or
-- what is told of the frame and the bit.
abbrev pub Source : Type 0
Source = ℕ → ℕ → Bool → Bool

abbrev pub any : Source
any frame bit value = value

abbrev pub told : (ℕ → ℕ → Bool) → Source
told bits frame bit value = bits frame bit

-- the value that a node should have that follows so many variables
abbrev pub node_value : List Cover → Source → Assignment → ℕ → Node → Bool
node_value covers source values before (Free frame bit) = source frame bit (values (suc before))
node_value covers source values before (And first second) = is_true values first && is_true values second
node_value covers source values before (Lut cover a b c d) =
    fits_some (cover_at covers cover).on (map (is_true values) (a ∷ b ∷ c ∷ d ∷ []))

-- nodes that follow so many variables have the values that they should
abbrev pub nodes_hold : List Cover → Source → Assignment → ℕ → List Node → Bool
nodes_hold covers source values before [] = true
nodes_hold covers source values before (node ∷ nodes) =
    same (values (suc before)) (node_value covers source values before node)
    && nodes_hold covers source values (suc before) nodes

-- an assignment that gives the true variable and all nodes the values that they should have
pub record IsEvaluation (covers : List Cover) (given : ℕ) (source : Source) (values : Assignment) (nodes : List Node) : Type 0 where
  pub yes : values (suc given) ≡ true
  pub hold : IsTrue (nodes_hold covers source values (suc given) nodes)
