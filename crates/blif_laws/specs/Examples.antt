-- Worked examples of models that fit together, and of their instance trees. The text is that of a top which places a model whose output `q` is the next value of a
-- latch turned over: `n` is what `q` is not, and `q` takes the value that `n` had, from 0 on. The top's `y` is `q`.
use Rattle.std.specs.Prelude.{◌≡◌, ℕ, Bool, true, false, List, [], ◌∷◌}
use Rattle.blif_flattening.specs.Trees.{Tree}
use Rattle.blif_flat.specs.Flat.{Models}
use Rattle.blif_flat.specs.Trees.{IsInstanceTree, TreeBegins, TreeMoves, unfolded}
use Rattle.blif_linking.specs.Examples.{parts_in, turning}
use Rattle.blif_linking.specs.Linked.{IsHierarchy, linked, linked_texts}

abbrev pub turned : Models
turned = linked (parts_in turning)

abbrev pub turned_texts : List (List (List ℕ))
turned_texts = linked_texts (parts_in turning)

-- its models fit together
abbrev pub TurningFits : Type 0
TurningFits = IsHierarchy turning turned turned_texts

-- the names of the top and of the instance in it
abbrev pub value_of_y : Tree Bool → Bool
value_of_y tree = tree [] 0

abbrev pub value_of_q : Tree Bool → Bool
value_of_q tree = tree (0 ∷ []) 0

abbrev pub value_of_n : Tree Bool → Bool
value_of_n tree = tree (0 ∷ []) 1

-- a flat valuation gives `y` and `q` the value of one signal
abbrev pub TurningUnfolds : Type 0
TurningUnfolds =
    let tree = unfolded turned (true ∷ false ∷ []) in
    (value_of_y tree ≡ true) × (value_of_q tree ≡ true) × (value_of_n tree ≡ false)

-- and its unfolding is an instance tree
abbrev pub TurningIsATree : Type 0
TurningIsATree = IsInstanceTree turned (unfolded turned (true ∷ false ∷ []))

-- a connected formal has its actual's value
abbrev pub FormalsFollow : Type 0
FormalsFollow = (tree : Tree Bool) → IsInstanceTree turned tree → value_of_q tree ≡ value_of_y tree

-- the table of the instance holds
abbrev pub TablesHold : Type 0
TablesHold = (tree : Tree Bool) → IsInstanceTree turned tree → value_of_q tree ≡ true → value_of_n tree ≡ false

-- its latch begins with 0, and moves
abbrev pub LatchesBegin : Type 0
LatchesBegin = (tree : Tree Bool) → TreeBegins turned tree → value_of_q tree ≡ false

abbrev pub LatchesMove : Type 0
LatchesMove = (earlier later : Tree Bool) → TreeMoves turned earlier later → value_of_q later ≡ value_of_n earlier
