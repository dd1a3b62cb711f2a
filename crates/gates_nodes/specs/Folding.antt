-- The nodes of a conjunction behind others: it is folded where a literal is constant or the two are equal or opposite, and
-- it is shared where the same node is there. Else there is one node more.
use Rattle.std.specs.Prelude.{ℕ, suc, ◌+◌, ℤ, pos, neg_ℤ, int_lt, Bool, false, cond, ◌&&◌, ◌||◌, List, [], ◌∷◌, ◌++◌, fold, Option, None, Some}
use Rattle.std.specs.List.{position_from}
use Rattle.std.specs.Ordering.{int_eq}
use Rattle.gates_nodes.specs.declared.node.Node.{Node}
use Rattle.gates_nodes.specs.declared.node.Node.TheVariants.{Free, And, Lut}
use Rattle.gates_nodes.specs.Nodes.{yes, no, variables_of}

-- nodes, and a literal
pub record Built : Type 0 where
  pub nodes : List Node
  pub output : ℤ

-- whether a node is the conjunction of two literals, in this order
abbrev pub is_conjunction : ℤ → ℤ → Node → Bool
is_conjunction first second (Free frame bit) = false
is_conjunction first second (And other_first other_second) = int_eq first other_first && int_eq second other_second
is_conjunction first second (Lut cover a b c d) = false

-- the first place of such a node
abbrev pub place_of : ℤ → ℤ → List Node → Option ℕ
place_of first second nodes = position_from (is_conjunction first second) 0 nodes

-- one node more
abbrev pub with_node : ℕ → List Node → Node → Built
with_node given nodes node = record { nodes = nodes ++ node ∷ []; output = pos (suc (variables_of given nodes)) }

-- the conjunction of two literals, which is shared where it is there
abbrev pub at_place : ℕ → List Node → ℤ → ℤ → Option ℕ → Built
at_place given nodes first second None = with_node given nodes (And first second)
at_place given nodes first second (Some place) = record { nodes = nodes; output = pos (suc (suc given + place)) }

abbrev pub shared : ℕ → List Node → ℤ → ℤ → Built
shared given nodes first second = at_place given nodes first second (place_of first second nodes)

-- the literal that is the conjunction of two, where it needs no node
abbrev pub folded : ℕ → ℤ → ℤ → Option ℤ
folded given first second =
    cond (int_eq first second) (Some first)
    (cond (int_eq first (neg_ℤ second)) (Some (no given))
    (cond (int_eq first (yes given)) (Some second)
    (cond (int_eq second (yes given)) (Some first)
    (cond (int_eq first (no given) || int_eq second (no given)) (Some (no given)) None))))

-- the lower of two literals, and the other
abbrev pub lower : ℤ → ℤ → ℤ
lower first second = cond (int_lt first second) first second

abbrev pub higher : ℤ → ℤ → ℤ
higher first second = cond (int_lt first second) second first

-- where it is not folded, the lower literal comes first
abbrev pub unless_folded : ℕ → List Node → ℤ → ℤ → Option ℤ → Built
unless_folded given nodes first second None = shared given nodes (lower first second) (higher first second)
unless_folded given nodes first second (Some literal) = record { nodes = nodes; output = literal }

abbrev pub conjoined : ℕ → List Node → ℤ → ℤ → Built
conjoined given nodes first second = unless_folded given nodes first second (folded given first second)

-- one of two literals
abbrev pub either : ℕ → List Node → ℤ → ℤ → Built
either given nodes first second = record {
  nodes = (conjoined given nodes (neg_ℤ first) (neg_ℤ second)).nodes;
  output = neg_ℤ (conjoined given nodes (neg_ℤ first) (neg_ℤ second)).output;
}

-- all of some literals
abbrev pub conjoined_all : ℕ → List Node → List ℤ → Built
conjoined_all given nodes literals =
    fold (λ now literal. conjoined given now.nodes now.output literal) (record { nodes = nodes; output = yes given }) literals
