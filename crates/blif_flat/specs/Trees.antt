-- Instance trees of bits: what the tables and latches of each instance say of its names.
use Rattle.std.specs.Prelude.{◌≡◌, ℕ, ◌↔◌, Bool, false, List, [], ◌∷◌, length, map}
use Rattle.blif_flattening.specs.declared.model.Item.TheVariants.{Own}
use Rattle.blif_flattening.specs.Hierarchy.{Path, items_at, IsInstance}
use Rattle.blif_flattening.specs.Members.{Among}
use Rattle.blif_flattening.specs.Numbers.{signals}
use Rattle.blif_flattening.specs.Trees.{Tree, IsTree, Same, unfold_of}
use Rattle.netlist.specs.Valuations.{MayBegin, output_by, IsValuation, IsInitial, IsStep}
use Rattle.blif_model.specs.declared.line.LineKind.{LineKind}
use Rattle.blif_model.specs.declared.line.LineKind.TheVariants as kinds
use Rattle.blif_model.specs.declared.line.ModelLine.{ModelLine}
use Rattle.blif_flat.specs.Flat.{Models, flat_design}
use Rattle.blif_flat.specs.Lines.{all_but_last, last_of, table_by, mentions_of}

-- the output of a table has the value that its rows say of its inputs
abbrev pub TableSays : LineKind → List ℕ → (ℕ → Bool) → Type 0
TableSays kinds.Inputs names value = Unit {0}
TableSays kinds.Outputs names value = Unit {0}
TableSays (kinds.Latch init) names value = Unit {0}
TableSays (kinds.Table rows) [] value = Unit {0}
TableSays (kinds.Table rows) (name ∷ names) value =
    value (last_of (name ∷ names)) ≡ output_by (table_by rows (name ∷ names)) (map value (all_but_last (name ∷ names)))

abbrev pub LineSays : ModelLine → (ℕ → Bool) → Type 0
LineSays line value = TableSays line.kind line.mentions value

-- an instance tree: the tables of each instance hold there, and a connected formal has its actual's value
abbrev pub IsInstanceTree : Models → Tree Bool → Type 0
IsInstanceTree models tree = IsTree models LineSays tree

-- the output of a latch has a first value that it may have
abbrev pub LatchBegins : LineKind → List ℕ → (ℕ → Bool) → Type 0
LatchBegins kinds.Inputs names value = Unit {0}
LatchBegins kinds.Outputs names value = Unit {0}
LatchBegins (kinds.Latch init) (input ∷ output ∷ []) value = MayBegin init (value output)
LatchBegins (kinds.Latch init) names value = Unit {0}
LatchBegins (kinds.Table rows) names value = Unit {0}

abbrev pub TreeBegins : Models → Tree Bool → Type 0
TreeBegins models tree =
    (path : Path) (line : ModelLine) → IsInstance models path → Among (Own line) (items_at models path)
    → LatchBegins line.kind line.mentions (tree path)

-- and takes the value that its input had
abbrev pub LatchMoves : LineKind → List ℕ → (ℕ → Bool) → (ℕ → Bool) → Type 0
LatchMoves kinds.Inputs names earlier later = Unit {0}
LatchMoves kinds.Outputs names earlier later = Unit {0}
LatchMoves (kinds.Latch init) (input ∷ output ∷ []) earlier later = later output ≡ earlier input
LatchMoves (kinds.Latch init) names earlier later = Unit {0}
LatchMoves (kinds.Table rows) names earlier later = Unit {0}

abbrev pub TreeMoves : Models → Tree Bool → Tree Bool → Type 0
TreeMoves models earlier later =
    (path : Path) (line : ModelLine) → IsInstance models path → Among (Own line) (items_at models path)
    → LatchMoves line.kind line.mentions (earlier path) (later path)

-- the instance tree of a valuation
abbrev pub unfolded : Models → List Bool → Tree Bool
unfolded models valuation = unfold_of mentions_of models false valuation

-- the valuations of the flat netlist are the instance trees: each unfolds to one, each instance tree is that of just one,
-- and first valuations and steps are kept both ways
pub record IsUnfolded (models : Models) (texts : List (List (List ℕ))) : Type 0 where
  pub valuations : (valuation : List Bool) → length valuation ≡ length (signals mentions_of models)
      → IsValuation (flat_design models texts) valuation ↔ IsInstanceTree models (unfolded models valuation)
  pub each : (tree : Tree Bool) → IsInstanceTree models tree
      → (valuation : List Bool) × IsValuation (flat_design models texts) valuation × Same mentions_of models (unfolded models valuation) tree
  pub one : (valuation other : List Bool) → length valuation ≡ length (signals mentions_of models)
      → length other ≡ length (signals mentions_of models)
      → Same mentions_of models (unfolded models valuation) (unfolded models other) → valuation ≡ other
  pub initial : (valuation : List Bool) → length valuation ≡ length (signals mentions_of models)
      → IsInitial (flat_design models texts) valuation
      ↔ (IsInstanceTree models (unfolded models valuation) × TreeBegins models (unfolded models valuation))
  pub step : (earlier later : List Bool) → length earlier ≡ length (signals mentions_of models)
      → length later ≡ length (signals mentions_of models)
      → IsStep (flat_design models texts) earlier later
      ↔ (IsInstanceTree models (unfolded models earlier) × IsInstanceTree models (unfolded models later)
      × TreeMoves models (unfolded models earlier) (unfolded models later))
