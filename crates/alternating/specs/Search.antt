-- The search for what is reached from the start.
use Rattle.std.specs.Prelude.{◌≡◌, ◌<◌, ℕ, Bool as Truth, List, [], ◌∷◌, ◌++◌, length, slice_index}
use Rattle.sere_nfa.specs.Marking.{is_marked}
use Rattle.alternating_theory.specs.Obligations.{Obligation}
use Rattle.alternating_theory.specs.Positive.{Positive, Const, Holds, Owed, And, Or}
use Rattle.alternating_theory.specs.Trimmed.{is_reached, count_below}

-- the numbers that a combination owes, in order
abbrev pub owed_in : Positive → List ℕ
owed_in (Const _) = []
owed_in (Holds _) = []
owed_in (Owed number) = number ∷ []
owed_in (And left right) = owed_in left ++ owed_in right
owed_in (Or left right) = owed_in left ++ owed_in right

-- the marks say of each obligation whether it is reached from the start
pub record MarksReached (obligations : List Obligation) (start : ℕ) (marks : List Truth) : Type 0 where
  pub same_length : length marks ≡ length obligations
  pub exact : (number : ℕ) → number < length obligations → is_marked marks number ≡ is_reached obligations start number

-- the new number of each obligation: how many marked ones stand before it
pub record Names (marks : List Truth) (names : List ℕ) : Type 0 where
  pub same_length : length names ≡ length marks
  pub exact : (number : ℕ) → number < length marks → slice_index names number ≡ count_below number (is_marked marks)
