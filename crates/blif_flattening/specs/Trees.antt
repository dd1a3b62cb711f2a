-- Valuations of a hierarchy: flat ones, and trees that give each instance's names their values.
use Rattle.std.specs.Prelude.{◌≡◌, ℕ, ◌<◌, ◌⊎◌, List, ◌∷◌, length, map, Some, slice_index_or}
use Rattle.blif_flattening.specs.declared.model.Item.TheVariants.{Own}
use Rattle.blif_flattening.specs.declared.model.Model.{Model}
use Rattle.blif_flattening.specs.declared.model.TheConstants.{DEEPEST}
use Rattle.blif_flattening.specs.Hierarchy.{Path, items_at, IsInstance, actual_of, owner, flat_lines}
use Rattle.blif_flattening.specs.Members.{Among}
use Rattle.blif_flattening.specs.Numbers.{signals, number}

-- a value for each name of each instance
abbrev pub Tree : Type 0 → Type 0
Tree V = Path → ℕ → V

-- a name of an instance: one that a line of it mentions, or that a placement in it connects
abbrev pub IsName : {Line : Type 0} → (Line → List ℕ) → List (Model Line) → Path → ℕ → Type 0
IsName {Line} mentions models path name =
    ((line : Line) × Among (Own line) (items_at models path) × Among name (mentions line))
    ⊎ ((k : ℕ) × (formal : ℕ) × (actual_of models path k formal ≡ Some name))

-- no instance is too deep, and each formal that is connected is mentioned by a line of its own model
pub record IsWhole {Line : Type 0} (mentions : Line → List ℕ) (models : List (Model Line)) : Type 0 where
  pub shallow : (path : Path) → IsInstance models path → length path < DEEPEST
  pub formals : (path : Path) (k formal actual : ℕ) → IsInstance models (k ∷ path)
      → actual_of models path k formal ≡ Some actual
      → (line : Line) × Among (Own line) (items_at models (k ∷ path)) × Among formal (mentions line)

-- what lines say of the values of names depends on the names that they mention alone
abbrev pub IsOfMentions : {Line V : Type 0} → (Line → List ℕ) → (Line → (ℕ → V) → Type 0) → Type 0
IsOfMentions {Line} {V} mentions Says =
    (line : Line) (one other : ℕ → V) → ((name : ℕ) → Among name (mentions line) → one name ≡ other name)
    → Says line one → Says line other

-- an instance tree: what each line of each instance says holds there, and a connected formal has its actual's value
pub record IsTree {Line V : Type 0} (models : List (Model Line)) (Says : Line → (ℕ → V) → Type 0) (tree : Tree V)
    : Type 0 where
  pub lines : (path : Path) (line : Line) → IsInstance models path → Among (Own line) (items_at models path)
      → Says line (tree path)
  pub connections : (path : Path) (k formal actual : ℕ) → IsInstance models (k ∷ path)
      → actual_of models path k formal ≡ Some actual
      → tree (k ∷ path) formal ≡ tree path actual

-- the value of each name of each instance in a flat valuation, which has a value for each signal by number
abbrev pub unfold_of : {Line V : Type 0} → (Line → List ℕ) → List (Model Line) → V → List V → Tree V
unfold_of mentions models other valuation path name =
    slice_index_or valuation (number mentions models (owner models path name)) other

-- a flat valuation: a value for each signal, where what each flat line says holds
pub record IsFlat {Line V : Type 0} (mentions : Line → List ℕ) (models : List (Model Line))
    (Says : Line → (ℕ → V) → Type 0) (other : V) (valuation : List V) : Type 0 where
  pub size : length valuation ≡ length (signals mentions models)
  pub lines : (path : Path) (line : Line) → Among (path, line) (flat_lines models)
      → Says line (unfold_of mentions models other valuation path)

-- the flat valuation of a tree: each signal has the value of the name that it is
abbrev pub folded : {Line V : Type 0} → (Line → List ℕ) → List (Model Line) → Tree V → List V
folded mentions models tree = map (λ signal. tree signal.path signal.name) (signals mentions models)

-- two trees are equal at each name of each instance
abbrev pub Same : {Line V : Type 0} → (Line → List ℕ) → List (Model Line) → Tree V → Tree V → Type 0
Same mentions models one other =
    (path : Path) (name : ℕ) → IsInstance models path → IsName mentions models path name
    → one path name ≡ other path name
