-- Acceptance of words with a loop by alternating automata. An entry says that an obligation is owed at
-- a place; its rank falls from each place to the next while obligations that must be met are put off.
use Rattle.std.specs.Prelude.{Bool as Truth, true, false, ◌||◌, nat_lt, ℕ, ◌*◌, ◌<◌, ◌≡◌, length, Option, None, Some, is_some, IsTrue}
use Rattle.psl_tree.specs.declared.letter.Letter.{Letter}
use Rattle.psl_tree.specs.declared.letter.Word.{Word}
use Rattle.alternating_theory.specs.Courses.{places, letter_at, next_place}
use Rattle.alternating_theory.specs.Obligations.{Automaton, obligation_at}
use Rattle.alternating_theory.specs.Positive.{met}

-- the entry, if there is one, is of an accepting obligation or has a rank below this one
abbrev pub serves : Option ℕ → Truth → ℕ → Truth
serves None accepting rank = false
serves (Some lower) accepting rank = accepting || nat_lt lower rank

-- At each place at most one entry for each obligation, given by its rank. Entries are of places and
-- obligations that there are, each rank is below the number of places times that of obligations, and
-- the start has an entry at the first place. The delta of an accepting entry is met by its letter and
-- the entries at the next place; that of any other entry by those of them that are accepting or have
-- a lower rank.
pub record IsRun (automaton : Automaton) (count : ℕ) (letter : ℕ → Letter) (next : ℕ → ℕ) (entry : ℕ → ℕ → Option ℕ) : Type 0 where
  pub within : (place number rank : ℕ) → entry place number ≡ Some rank
      → (place < count) × (number < length automaton.obligations) × (rank < count * length automaton.obligations)
  pub begins : IsTrue (is_some (entry 0 automaton.start))
  pub accepting : (place number rank : ℕ) → entry place number ≡ Some rank
      → (obligation_at automaton.obligations number).accepting ≡ true
      → IsTrue (met (obligation_at automaton.obligations number).delta (letter place) (λ other. is_some (entry (next place) other)))
  pub others : (place number rank : ℕ) → entry place number ≡ Some rank
      → (obligation_at automaton.obligations number).accepting ≡ false
      → IsTrue (met (obligation_at automaton.obligations number).delta (letter place)
      (λ other. serves (entry (next place) other) (obligation_at automaton.obligations other).accepting rank))

-- some entries meet these rules, over so many places with their letters and next places
abbrev pub AcceptsAlong : Automaton → ℕ → (ℕ → Letter) → (ℕ → ℕ) → Type 0
AcceptsAlong automaton count letter next = ((entry : ℕ → ℕ → Option ℕ) → IsRun automaton count letter next entry → ⊥) → ⊥

-- the automaton accepts the word: the places are those of its stem and loop, and after the last one
-- the loop begins again
abbrev pub Accepts : Automaton → Word → Type 0
Accepts automaton word = AcceptsAlong automaton (places word) (letter_at word) (next_place word)
