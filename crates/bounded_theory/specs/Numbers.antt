-- Numbers along the places of a word with a loop, as a second form of acceptance: in place of ranks that fall from place
-- to place, numbers that need to fall only where the loop begins again.
use Rattle.std.specs.Prelude.{Bool as Truth, ◌&&◌, ◌||◌, ◌==◌, nat_lt, nat_le, if◌then◌else◌, ℕ, suc, ◌≤◌, ◌<◌, length, IsTrue}
use Rattle.psl_tree.specs.declared.letter.Letter.{Letter}
use Rattle.alternating_theory.specs.Obligations.{Automaton, obligation_at}
use Rattle.alternating_theory.specs.Positive.{met}

-- the place after one of the places up to the last, after which one of them comes again
abbrev pub place_after : ℕ → ℕ → ℕ → ℕ
place_after last again place = if place == last then again else suc place

-- from one place to the next a number does not rise, and from the last place on it falls
abbrev pub is_kept : Truth → ℕ → ℕ → Truth
is_kept is_last number next = if is_last then nat_lt next number else nat_le next number

-- An obligation that is owed serves another one, which is owed at the place before and has this number there: one of
-- both is accepting, or the number is kept.
abbrev pub serves : Automaton → Truth → ℕ → ℕ → ℕ → ℕ → Truth
serves automaton is_last obligation number other next =
    ((obligation_at automaton.obligations obligation).accepting || (obligation_at automaton.obligations other).accepting)
    || is_kept is_last number next

-- What is owed at the places up to the last, and a number for each obligation at each place. The start is owed at the
-- first place. The delta of what is owed is met by the letter there and by what is owed at the next place and serves it.
pub record IsSearched (automaton : Automaton) (last again : ℕ) (letter : ℕ → Letter) (owed : ℕ → ℕ → Truth) (number : ℕ → ℕ → ℕ) : Type 0 where
  pub begins : IsTrue (owed 0 automaton.start)
  pub meets : (place obligation : ℕ) → place ≤ last → obligation < length automaton.obligations → IsTrue (owed place obligation)
      → IsTrue (met (obligation_at automaton.obligations obligation).delta (letter place)
      (λ other. owed (place_after last again place) other
      && serves automaton (place == last) obligation (number place obligation) other (number (place_after last again place) other)))

-- no number is larger than there are obligations
abbrev pub AreSmall : Automaton → (ℕ → ℕ → ℕ) → Type 0
AreSmall automaton number = (place obligation : ℕ) → number place obligation ≤ length automaton.obligations
