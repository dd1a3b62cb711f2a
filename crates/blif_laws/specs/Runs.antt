-- Runs of a hierarchy: what its instance trees are at one moment after another.
use Rattle.std.specs.Prelude.{◌≡◌, ℕ, suc, ◌<◌, ◌↔◌, Bool, false, List, ◌++◌, map, take, length, slice_index_or}
use Rattle.blif_flattening.specs.Trees.{Tree, Same}
use Rattle.netlist.specs.declared.run.Run.{Run}
use Rattle.netlist.specs.Runs.{AreSized, IsRun, valuation_at}
use Rattle.blif_flat.specs.Flat.{Models, flat_design}
use Rattle.blif_flat.specs.Lines.{mentions_of}
use Rattle.blif_flat.specs.Trees.{IsInstanceTree, TreeBegins, TreeMoves, unfolded}

-- the trees of a stem and a loop in order, that with which the loop begins once more at the end
abbrev pub trees_of : List (Tree Bool) → List (Tree Bool) → List (Tree Bool)
trees_of stem looped = stem ++ looped ++ take 1 looped

abbrev pub no_tree : Tree Bool
no_tree path name = false

abbrev pub tree_at : List (Tree Bool) → List (Tree Bool) → ℕ → Tree Bool
tree_at stem looped place = slice_index_or (trees_of stem looped) place no_tree

-- a run: the loop is not empty, each is an instance tree, the first is a first one, and from each to the next all latches
-- move; also from the last one of the loop to its first
pub record IsTreeRun (models : Models) (stem looped : List (Tree Bool)) : Type 0 where
  pub loops : 0 < length looped
  pub trees : (place : ℕ) → place < length (trees_of stem looped) → IsInstanceTree models (tree_at stem looped place)
  pub begins : TreeBegins models (tree_at stem looped 0)
  pub steps : (place : ℕ) → suc place < length (trees_of stem looped)
      → TreeMoves models (tree_at stem looped place) (tree_at stem looped (suc place))

-- the unfolding of a run of the flat netlist, tree by tree
abbrev pub unfolded_all : Models → List (List Bool) → List (Tree Bool)
unfolded_all models valuations = map (unfolded models) valuations

-- the runs of the flat netlist are those of the hierarchy: a list of valuations is a run where its unfolding is, and each run
-- of the hierarchy is, at each moment, the unfolding of a run of the netlist
pub record HasRuns (models : Models) (texts : List (List (List ℕ))) : Type 0 where
  pub kept : (run : Run) → AreSized (flat_design models texts) run
      → IsRun (flat_design models texts) run ↔ IsTreeRun models (unfolded_all models run.stem) (unfolded_all models run.loop_part)
  pub each : (stem looped : List (Tree Bool)) → IsTreeRun models stem looped
      → (run : Run) × IsRun (flat_design models texts) run × (length run.stem ≡ length stem)
      × (length run.loop_part ≡ length looped)
      × ((place : ℕ) → place < length (trees_of stem looped)
      → Same mentions_of models (unfolded models (valuation_at run place)) (tree_at stem looped place))
