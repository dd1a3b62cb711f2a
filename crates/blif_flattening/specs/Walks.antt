-- What a walk through instances finds: their lines, with the numbers of the signals that these mention.
use Rattle.std.specs.Prelude.{◌≡◌, ℕ, ◌+◌, List, [], ◌∷◌, ◌++◌, map, Option, Some, slice_get}
use Rattle.blif_flattening.specs.declared.model.Item.{Item}
use Rattle.blif_flattening.specs.declared.model.Item.TheVariants.{Own, Place}
use Rattle.blif_flattening.specs.declared.model.Model.{Model}
use Rattle.blif_flattening.specs.declared.model.Signal.{Signal}
use Rattle.blif_flattening.specs.declared.walk.FlatLine.{FlatLine}
use Rattle.blif_flattening.specs.declared.walk.Progress.{Progress}
use Rattle.blif_flattening.specs.declared.instance.Instance.{Instance}
use Rattle.blif_flattening.specs.Hierarchy.{Path, Placed, items_of, placement_at, mentioned_by, mentioned}
use Rattle.blif_flattening.specs.Numbers.{onto, place_of}
use Rattle.blif_flattening.specs.Cells.{named}

-- a flat line as it is found: what stands at its place in its model, and its numbers
abbrev pub line_view : {Line : Type 0} → List (Model Line) → FlatLine → Option (Item Line) × List ℕ
line_view models line = (slice_get (items_of models line.model) line.item, line.numbers)

-- a line of an instance, with the numbers of what it mentions in a list of signals
abbrev pub placed_view : {Line : Type 0} → (Line → List ℕ) → List (Model Line) → List Signal → Placed Line
    → Option (Item Line) × List ℕ
placed_view mentions models signals placed =
    (Some (Own placed.1), map (place_of signals) (mentioned_by mentions models placed))

-- the lines of an item: the line itself, or those of a placement
abbrev pub item_lines : {Line : Type 0} → (Path → List (Placed Line)) → Path → ℕ → Item Line → List (Placed Line)
item_lines below path k (Own line) = (path, line) ∷ []
item_lines below path k (Place placement) = below (k ∷ path)

-- the number of the placement that comes behind an item
abbrev pub next_place : {Line : Type 0} → ℕ → Item Line → ℕ
next_place k (Own line) = k
next_place k (Place placement) = k + 1

-- where an item is a placement, it has a number in its instance
abbrev pub IsPlacedAs : {Line : Type 0} → List (Model Line) → Path → ℕ → Item Line → Type 0
IsPlacedAs models path k (Own line) = Unit {0}
IsPlacedAs models path k (Place placement) = placement_at models path k ≡ Some placement

-- a walk has found lines of instances
pub record Walks {Line : Type 0} (mentions : Line → List ℕ) (models : List (Model Line)) (lines : List (Placed Line))
    (old new : Progress) : Type 0 where
  pub seen : new.table.seen ≡ onto old.table.seen (mentioned mentions models lines)
  pub found : map (line_view models) new.lines
      ≡ map (line_view models) old.lines ++ map (placed_view mentions models new.table.seen) lines

-- one line is found, with its numbers
pub record AddsLine (instance : Instance) (item : ℕ) (names : List ℕ) (old new : Progress) : Type 0 where
  pub owners : new.table.owners ≡ old.table.owners
  pub seen : new.table.seen ≡ onto old.table.seen (named old.table.owners instance.cells names)
  pub instances : new.instances ≡ old.instances
  pub lines : new.lines ≡ old.lines ++ record {
    model = instance.model;
    item = item;
    numbers = map (place_of new.table.seen) (named old.table.owners instance.cells names);
  } ∷ []
