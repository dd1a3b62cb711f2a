-- The instances of a hierarchy in flat order, and which signals their names are.
use Rattle.std.specs.Prelude.{◌≡◌, ℕ, zero, suc, ◌+◌, ◌<◌, ◌^◌, cond, List, [], ◌∷◌, ◌++◌, map, All, Option, None, Some}
use Rattle.blif_flattening.specs.declared.instance.Instance.{Instance}
use Rattle.blif_flattening.specs.declared.listing.FlatInstance.{FlatInstance}
use Rattle.blif_flattening.specs.declared.model.Item.{Item}
use Rattle.blif_flattening.specs.declared.model.Item.TheVariants.{Own, Place}
use Rattle.blif_flattening.specs.declared.model.Model.{Model}
use Rattle.blif_flattening.specs.declared.model.Placement.{Placement}
use Rattle.blif_flattening.specs.declared.model.Signal.{Signal}
use Rattle.blif_flattening.specs.declared.model.TheConstants.{DEEPEST}
use Rattle.blif_flattening.specs.declared.walk.Progress.{Progress}
use Rattle.blif_flattening.specs.Cells.{SignalTable, signal_in}
use Rattle.blif_flattening.specs.Hierarchy.{Path, items_at, model_at, owner, placements_in}
use Rattle.blif_flattening.specs.Instances.{IsOpened, names_of}
use Rattle.blif_flattening.specs.Members.{Among}
use Rattle.blif_flattening.specs.Numbers.{is_among, place_of, signals}

-- an instance and those below it, in flat order, so many levels deep
abbrev pub instances_by : (Path → List Path) → Path → ℕ → List Placement → List Path
instances_by below path k [] = []
instances_by below path k (placement ∷ placements) = below (k ∷ path) ++ instances_by below path (suc k) placements

abbrev pub instances_from : {Line : Type 0} → List (Model Line) → ℕ → Path → List Path
instances_from models zero path = []
instances_from models (suc levels) path =
    path ∷ instances_by (instances_from models levels) path 0 (placements_in (items_at models path))

-- all instances
unfoldable pub instances : {Line : Type 0} → List (Model Line) → List Path
instances models = instances_from models DEEPEST []

-- what is asked of so many numbers, from one on
abbrev pub counted_from : {A : Type 0} → (ℕ → A) → ℕ → ℕ → List A
counted_from ask number zero = []
counted_from ask number (suc count) = ask number ∷ counted_from ask (suc number) count

-- the number of a signal, where it is one of a list
abbrev pub number_in_list : List Signal → Signal → Option ℕ
number_in_list signals signal = cond (is_among signals signal) (Some (place_of signals signal)) None

-- an instance, with the numbers of the signals that its names are, where lines mention these
abbrev pub flat_instance : {Line : Type 0} → (Line → List ℕ) → List (Model Line) → Path → FlatInstance
flat_instance mentions models path = record {
  path = path;
  model = model_at models path;
  numbers =
      counted_from (λ name. number_in_list (signals mentions models) (owner models path name)) 0
      (names_of models (model_at models path));
}

-- an instance as a table of signals has it
abbrev pub instance_by : SignalTable → Instance → FlatInstance
instance_by table instance = record {
  path = instance.path;
  model = instance.model;
  numbers = map (λ cell. number_in_list table.seen (signal_in table.owners cell)) instance.cells;
}

-- numbers of placements with one more behind each
abbrev pub IsSmall : Path → Type 0
IsSmall path = All (λ k. k + 1 < 2 ^ 64) path

-- the instances of an item: those of a placement
abbrev pub item_instances : {Line : Type 0} → (Path → List Path) → Path → ℕ → Item Line → List Path
item_instances below path k (Own line) = []
item_instances below path k (Place placement) = below (k ∷ path)

-- a walk has listed the instances of paths behind others, and each of them is open
pub record Lists {Line : Type 0} (models : List (Model Line)) (paths : List Path) (old : List Instance) (new : Progress)
    : Type 0 where
  pub added : List Instance
  pub is : new.instances ≡ old ++ added
  pub paths_are : map (λ instance. instance.path) added ≡ paths
  pub opened : (instance : Instance) → Among instance added → IsOpened models new.table.owners instance
  pub small : (instance : Instance) → Among instance added → IsSmall instance.path

-- and all instances that were found have such paths
abbrev pub AreSmall : List FlatInstance → Type 0
AreSmall found = (instance : FlatInstance) → Among instance found → IsSmall instance.path
