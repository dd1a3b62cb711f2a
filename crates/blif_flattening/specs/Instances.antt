-- The instances that a walk has opened: in which cell each of their names is.
use Rattle.std.specs.Prelude.{◌≡◌, ℕ, zero, suc, ◌<◌, ◌≤◌, ◌⊎◌, List, [], ◌∷◌, ◌++◌, length, Option, None, Some, slice_index, slice_index_or}
use Rattle.blif_flattening.specs.declared.model.Connection.{Connection}
use Rattle.blif_flattening.specs.declared.model.Placement.{Placement}
use Rattle.blif_flattening.specs.declared.model.Item.TheVariants.{Own, Place}
use Rattle.blif_flattening.specs.declared.model.Model.{Model}
use Rattle.blif_flattening.specs.declared.model.Signal.{Signal}
use Rattle.blif_flattening.specs.declared.instance.Instance.{Instance}
use Rattle.blif_flattening.specs.Members.{Among}
use Rattle.blif_flattening.specs.Hierarchy.{Path, items_of, model_at, actual_in, owner_by, owner}
use Rattle.blif_flattening.specs.Cells.{signal_in}

-- how many names the model of a number has
abbrev pub names_of : {Line : Type 0} → List (Model Line) → ℕ → ℕ
names_of [] model = 0
names_of (first ∷ models) zero = first.names
names_of (first ∷ models) (suc model) = names_of models model

-- what a model mentions and connects are names of it
pub record IsNamed {Line : Type 0} (mentions : Line → List ℕ) (models : List (Model Line)) : Type 0 where
  pub lines : (model : ℕ) (line : Line) → Among (Own line) (items_of models model)
      → (name : ℕ) → Among name (mentions line) → name < names_of models model
  pub actuals : (model : ℕ) (placement : Placement) → Among (Place placement) (items_of models model)
      → (formal actual : ℕ) → actual_in placement.connections formal ≡ Some actual → actual < names_of models model

-- what each name is connected with, up to a count
pub record HasActuals (connections : List Connection) (count : ℕ) (actuals : List (Option ℕ)) : Type 0 where
  pub size : length actuals ≡ count
  pub each : (name : ℕ) → name < count → slice_index_or actuals name None ≡ actual_in connections name

-- cells of so many names, whose signals are given
pub record AreCells (owners : List Signal) (cells : List ℕ) (count : ℕ) (own : ℕ → Signal) : Type 0 where
  pub size : length cells ≡ count
  pub within : (name : ℕ) → name < count → slice_index cells name < length owners
  pub each : (name : ℕ) → name < count → signal_in owners (slice_index cells name) ≡ own name

-- the table of signals has grown by those of one instance
pub record Opens (path : Path) (count : ℕ) (old new : List Signal) : Type 0 where
  pub added : List Signal
  pub is : new ≡ old ++ added
  pub here : (signal : Signal) → Among signal added → (signal.path ≡ path) × (signal.name < count)

-- the signal of a name that is not connected
abbrev pub own_signal : Path → ℕ → Signal
own_signal path name = record { path = path; name = name }

-- one more name has a cell: that of its actual, or a new one
pub record OpensName (above : List ℕ) (path : Path) (name : ℕ) (actual : Option ℕ) (old new : List Signal) (cell : ℕ)
    : Type 0 where
  pub within : cell < length new
  pub grown : (new ≡ old) ⊎ (new ≡ old ++ own_signal path name ∷ [])
  pub is : signal_in new cell ≡ owner_by (λ above_name. signal_in old (slice_index above above_name)) path name actual

-- the signal of a name of an instance that is opened: one of its own, or that of its actual's cell
abbrev pub opened_by : List Signal → List ℕ → Path → List (Option ℕ) → ℕ → Signal
opened_by owners above path actuals name =
    owner_by (λ actual. signal_in owners (slice_index above actual)) path name (slice_index_or actuals name None)

-- an instance that is open: its model, and the cell of each of its names
pub record IsOpened {Line : Type 0} (models : List (Model Line)) (owners : List Signal) (instance : Instance)
    : Type 0 where
  pub model : instance.model ≡ model_at models instance.path
  pub cells : AreCells owners instance.cells (names_of models instance.model) (owner models instance.path)

-- an instance is another one, or lies below it
pub record Under (top path : Path) : Type 0 where
  pub rest : Path
  pub is : path ≡ rest ++ top

-- no signal there is of a placement in an instance, from one on
abbrev pub IsFresh : List Signal → Path → ℕ → Type 0
IsFresh owners path k =
    (signal : Signal) → Among signal owners → (later : ℕ) → k ≤ later → Under (later ∷ path) signal.path → ⊥

-- the table of signals has grown by those of placements in an instance
pub record Grows (path : Path) (old new : List Signal) : Type 0 where
  pub added : List Signal
  pub is : new ≡ old ++ added
  pub below : (signal : Signal) → Among signal added → (k : ℕ) × Under (k ∷ path) signal.path
