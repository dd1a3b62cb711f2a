-- Positive combinations on the letter of a frame as nodes, where a function makes the literal of each obligation at the
-- next place.
use Rattle.std.specs.Prelude.{ℕ, ℤ, List, Option}
use Rattle.alternating_theory.specs.Positive.{Positive, Const, Holds, Owed, And, Or}
use Rattle.gates_nodes.specs.declared.node.Node.{Node}
use Rattle.gates_nodes.specs.Folding.{Built, conjoined, either}
use Rattle.gates_frames.specs.Frames.{literal_at}
use Rattle.gates_letters.specs.Booleans.{boolean_built, constant_built, joined}

-- what the frame's letter and the obligations at the next place have to meet
abbrev pub combination_by : ℕ → Option (List ℤ) → List ℤ → (ℕ → List Node → Built) → Positive → List Node → Built
combination_by given before now later (Const value) nodes = constant_built given value nodes
combination_by given before now later (Holds test) nodes = boolean_built given before now test nodes
combination_by given before now later (Owed number) nodes = later number nodes
combination_by given before now later (And left right) nodes =
    joined (conjoined given) (combination_by given before now later left) (combination_by given before now later right) nodes
combination_by given before now later (Or left right) nodes =
    joined (either given) (combination_by given before now later left) (combination_by given before now later right) nodes

-- the literals of a list, which need no node
abbrev pub listed : ℕ → List ℤ → ℕ → List Node → Built
listed given literals number nodes = record { nodes = nodes; output = literal_at given literals number }

abbrev pub combination_built : ℕ → Option (List ℤ) → List ℤ → List ℤ → Positive → List Node → Built
combination_built given before now later positive nodes = combination_by given before now (listed given later) positive nodes
