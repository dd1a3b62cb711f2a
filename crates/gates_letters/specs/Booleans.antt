-- Booleans on the letter of a frame as nodes, where the frame and the one before it, if there is one, give a literal for
-- each signal.
use Rattle.std.specs.Prelude.{ℕ, ℤ, neg_ℤ, Bool as Truth, true, false, List, Option, None, Some}
use Rattle.psl_tree.specs.Trees as trees
use Rattle.psl_tree.specs.Trees.{Boolean}
use Rattle.psl_tree.specs.declared.atom.Edge.{Edge}
use Rattle.psl_tree.specs.declared.atom.Edge.TheVariants.{Value, Rise, Fall}
use Rattle.gates_nodes.specs.declared.node.Node.{Node}
use Rattle.gates_nodes.specs.Folding.{Built, conjoined, either}
use Rattle.gates_nodes.specs.Nodes.{no, yes}
use Rattle.gates_frames.specs.Frames.{literal_at}

-- a constant, which needs no node
abbrev pub constant_built : ℕ → Truth → List Node → Built
constant_built given true nodes = record { nodes = nodes; output = yes given }
constant_built given false nodes = record { nodes = nodes; output = no given }

-- the negation of a part
abbrev pub negation : (List Node → Built) → List Node → Built
negation part nodes = record { nodes = (part nodes).nodes; output = neg_ℤ (part nodes).output }

-- two parts one behind the other, and then the literal that joins theirs
abbrev pub joined : (List Node → ℤ → ℤ → Built) → (List Node → Built) → (List Node → Built) → List Node → Built
joined join first second nodes =
    join (second (first nodes).nodes).nodes (first nodes).output (second (first nodes).nodes).output

-- a signal is 1; or it was 0 and is 1, or was 1 and is 0, which none did where no frame is before
abbrev pub edge_built : ℕ → Option (List ℤ) → List ℤ → Edge → ℕ → List Node → Built
edge_built given before now Value signal nodes = record { nodes = nodes; output = literal_at given now signal }
edge_built given None now Rise signal nodes = record { nodes = nodes; output = no given }
edge_built given None now Fall signal nodes = record { nodes = nodes; output = no given }
edge_built given (Some before) now Rise signal nodes =
    conjoined given nodes (neg_ℤ (literal_at given before signal)) (literal_at given now signal)
edge_built given (Some before) now Fall signal nodes =
    conjoined given nodes (literal_at given before signal) (neg_ℤ (literal_at given now signal))

-- a Boolean
abbrev pub boolean_built : ℕ → Option (List ℤ) → List ℤ → Boolean → List Node → Built
boolean_built given before now (trees.Const value) nodes = constant_built given value nodes
boolean_built given before now (trees.Test atom) nodes = edge_built given before now atom.edge atom.signal nodes
boolean_built given before now (trees.Not part) nodes = negation (boolean_built given before now part) nodes
boolean_built given before now (trees.And left right) nodes =
    joined (conjoined given) (boolean_built given before now left) (boolean_built given before now right) nodes
boolean_built given before now (trees.Or left right) nodes =
    joined (either given) (boolean_built given before now left) (boolean_built given before now right) nodes
