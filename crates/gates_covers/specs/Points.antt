-- The vectors of four values, sets of them, and rows that fit just where others do not.
use Rattle.std.specs.Prelude.{◌≡◌, ℕ, ◌<◌, ◌%◌, Bool, not, cond, nat_le, List, [], ◌∷◌, map}
use Rattle.std.specs.Int.{bit_at}
use Rattle.std.specs.List.{range_with_len}
use Rattle.netlist.specs.declared.rows.Mark.{Mark}
use Rattle.gates_nodes.specs.Nodes.{fits_some}

-- the four binary digits of a number, the highest one first
abbrev pub point_of : ℕ → List Bool
point_of number = nat_le 8 number ∷ nat_le 4 (number % 8) ∷ nat_le 2 (number % 4) ∷ nat_le 1 (number % 2) ∷ []

-- all vectors
unfoldable pub points : List (List Bool)
points = map point_of (range_with_len 0 16)

-- the binary digits of a number say which vectors pass a test
abbrev pub IsMask : ℕ → (List Bool → Bool) → Type 0
IsMask mask test = (number : ℕ) → number < 16 → bit_at mask number ≡ cond (test (point_of number)) 1 0

-- of two lists of rows just one has a row that fits, for each vector of four values
pub record AreOpposite (rows others : List (List Mark)) : Type 0 where
  pub one_side : (a b c d : Bool) → fits_some rows (a ∷ b ∷ c ∷ d ∷ []) ≡ not (fits_some others (a ∷ b ∷ c ∷ d ∷ []))
