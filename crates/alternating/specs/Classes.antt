-- Classes of obligations as the program keeps them: one for each obligation but the start, the last.
use Rattle.std.specs.Prelude.{◌≡◌, ◌+◌, ◌<◌, ℕ, Bool as Truth, List, length, slice_index}
use Rattle.sere_nfa.specs.Marking.{is_marked}
use Rattle.alternating_theory.specs.Merged.{class_in, is_first}

-- the marks say of each obligation whether it is the first of its class
pub record Firsts (classes : List ℕ) (marks : List Truth) : Type 0 where
  pub same_length : length marks ≡ length classes + 1
  pub exact : (number : ℕ) → number < length classes + 1 → is_marked marks number ≡ is_first (class_in classes) number

-- each obligation has the new number of the first of its class
pub record ClassNames (classes names new : List ℕ) : Type 0 where
  pub same_length : length new ≡ length classes + 1
  pub exact : (number : ℕ) → number < length classes + 1 → slice_index new number ≡ slice_index names (class_in classes number)
