-- Names without the later ones of several that are equal.
use Rattle.std.specs.Prelude.{ℕ, List, [], ◌∷◌, slice_index_or}
use Rattle.blif_model.specs.Models.{with_name}

-- names with others behind them that are not there yet
abbrev pub gathered : List (List ℕ) → List (List ℕ) → List (List ℕ)
gathered found [] = found
gathered found (name ∷ names) = gathered (with_name found name) names

-- the name of a number, an empty one past the last
abbrev pub text_at : List (List ℕ) → ℕ → List ℕ
text_at names number = slice_index_or names number []
