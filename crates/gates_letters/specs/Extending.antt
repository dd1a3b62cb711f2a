-- Nodes that stay while others follow.
use Rattle.std.specs.Prelude.{◌≡◌, ◌≤◌, ℤ, List, [], ◌++◌}
use Rattle.std.proofs.Common.{subst, sym}
use Rattle.std.proofs.lemmas.List.{append-nil}
use Rattle.gates_nodes.specs.declared.node.Node.{Node}
use Rattle.gates_nodes.specs.Nodes.{variables_of}
use Rattle.gates_nodes.proofs.Values.{variables-more}
use Rattle.gates_builder.specs.Adding.{AreOf, Making, with_nodes}
use Rattle.gates_builder.proofs.Growing.{all-more}

-- nodes stay, and more may follow
pub record Extends (old new : List Node) : Type 0 where
  pub more : List Node
  pub is : new ≡ old ++ more

-- so do none, and the literals of a list stay those of variables
pub extends-same : (nodes : List Node) → Extends nodes nodes
extends-same nodes = record { more = []; is = sym (append-nil nodes) }

pub all-extends : (making : Making) (nodes : List Node) (literals : List ℤ)
    → AreOf making literals → Extends making.nodes nodes → AreOf (with_nodes making nodes) literals
all-extends making nodes literals of extends =
    all-more making (with_nodes making nodes) literals
    (subst (λ others. variables_of making.given making.nodes ≤ variables_of making.given others) (sym extends.is)
    (variables-more making.given making.nodes extends.more)) of
