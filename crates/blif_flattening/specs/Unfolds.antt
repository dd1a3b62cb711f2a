-- What flattening keeps, for values that are numbers: a bit is 0 or 1, and the two bits of a step are a number below 4.
use Rattle.std.specs.Prelude.{◌≡◌, ℕ, Bool, IsTrue, List, length, map}
use Rattle.blif_flattening.specs.declared.model.Model.{Model}
use Rattle.blif_flattening.specs.Numbers.{signals}
use Rattle.blif_flattening.specs.Trees.{Tree, IsWhole, IsTree, IsFlat, unfold_of, folded, Same}

-- what a line says, as a test of the values of the names that it mentions
abbrev pub Passes : {Line : Type 0} → (Line → List ℕ) → (Line → List ℕ → Bool) → Line → (ℕ → ℕ) → Type 0
Passes mentions test line value = IsTrue (test line (map value (mentions line)))

-- a flat valuation unfolds to an instance tree
abbrev pub UnfoldsToTrees : {Line : Type 0} → (Line → List ℕ) → List (Model Line) → Type 0
UnfoldsToTrees {Line} mentions models =
    IsWhole mentions models → (test : Line → List ℕ → Bool) (valuation : List ℕ)
    → IsFlat mentions models (Passes mentions test) 0 valuation
    → IsTree models (Passes mentions test) (unfold_of mentions models 0 valuation)

-- and what unfolds to an instance tree is a flat valuation
abbrev pub UnfoldsFlatOnly : {Line : Type 0} → (Line → List ℕ) → List (Model Line) → Type 0
UnfoldsFlatOnly {Line} mentions models =
    (test : Line → List ℕ → Bool) (valuation : List ℕ) → length valuation ≡ length (signals mentions models)
    → IsTree models (Passes mentions test) (unfold_of mentions models 0 valuation)
    → IsFlat mentions models (Passes mentions test) 0 valuation

-- each instance tree is what a flat valuation unfolds to
abbrev pub UnfoldsToEach : {Line : Type 0} → (Line → List ℕ) → List (Model Line) → Type 0
UnfoldsToEach {Line} mentions models =
    IsWhole mentions models → (test : Line → List ℕ → Bool) (tree : Tree ℕ)
    → IsTree models (Passes mentions test) tree
    → IsFlat mentions models (Passes mentions test) 0 (folded mentions models tree)
    × Same mentions models (unfold_of mentions models 0 (folded mentions models tree)) tree

-- and of one only
abbrev pub UnfoldsFromOne : {Line : Type 0} → (Line → List ℕ) → List (Model Line) → Type 0
UnfoldsFromOne mentions models =
    (one other : List ℕ) → length one ≡ length (signals mentions models)
    → length other ≡ length (signals mentions models)
    → Same mentions models (unfold_of mentions models 0 one) (unfold_of mentions models 0 other) → one ≡ other
