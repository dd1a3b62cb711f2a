-- The two ways in which letters settle a verdict, and what a search for its point keeps.
use Rattle.std.specs.Prelude.{◌≡◌, ◌≤◌, ℕ, suc, Bool as Truth, true, false, not, List, length}
use Rattle.psl_tree.specs.Followed.{Past, Tops, Bottoms}
use Rattle.psl_tree.specs.declared.letter.Letter.{Letter}
use Rattle.psl_tree.specs.Trees.{Formula}
use Rattle.vcd_reader.specs.Sampled.{Sampled}
use Rattle.alternating_theory.specs.Obligations.{Automaton, value_on}
use Rattle.alternating_blocks.specs.declared.values.Values.{Values}
use Rattle.wave_judge.specs.Settled.{IsSettledAgainst, IsSettledFor}
use Rattle.wave_judge.specs.Values.{IsStand, first_letters}
use Rattle.wave_judge.specs.declared.search.Side.{Side}
use Rattle.wave_judge.specs.declared.search.Side.TheVariants.{Against, For}
use Rattle.wave_judge.specs.declared.search.Span.{Span}

-- the letters settle it this way
abbrev pub IsSettled : Side → Formula → List Letter → Type 0
IsSettled Against formula letters = IsSettledAgainst formula letters
IsSettled For formula letters = IsSettledFor formula letters

-- what follows the letters in the view that tells of it
abbrev pub past_of : Side → Past
past_of Against = Tops
past_of For = Bottoms

-- the values in that view
abbrev pub values_in : Side → Values → List Truth
values_in Against values = values.weak
values_in For values = values.strong

-- whether the formula's value in that view settles it
abbrev pub settles : Side → Truth → Truth
settles Against value = not value
settles For value = value

-- whether letters settle it, by the automaton
abbrev pub is_settled : Side → Automaton → List Letter → Truth
is_settled side automaton letters = settles side (value_on automaton (past_of side) letters)

-- two words of which the shorter does not settle it and the longer does, with their values at one block
pub record IsSpan (side : Side) (automaton : Automaton) (recording : Sampled) (span : Span) : Type 0 where
  pub ordered : span.below.count ≤ span.above.count
  pub below : IsStand automaton recording span.below.count span.below.block span.below
  pub above : IsStand automaton recording span.above.count span.below.block span.above
  pub unsettled : is_settled side automaton (first_letters recording span.below.count) ≡ false
  pub settled : is_settled side automaton (first_letters recording span.above.count) ≡ true

-- so many first samples settle it, and one fewer do not
pub record IsStep (side : Side) (automaton : Automaton) (recording : Sampled) (count : ℕ) : Type 0 where
  pub within : count ≤ length recording.samples
  pub settled : is_settled side automaton (first_letters recording count) ≡ true
  pub before : (fewer : ℕ) → suc fewer ≡ count → is_settled side automaton (first_letters recording fewer) ≡ false
