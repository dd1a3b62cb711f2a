-- When an automaton accepts the word of a run that holds its inputs, as far as its first valuations tell.
use Rattle.std.specs.Prelude.{◌≡◌, ℕ, zero, suc, ◌-◌, ◌<◌, Bool as Truth, true, List, length, Option, None, Some, Contains, IsTrue}
use Rattle.alternating_theory.specs.Atoms.{AtomsOfPositive}
use Rattle.alternating_theory.specs.Obligations.{Automaton, obligation_at}
use Rattle.alternating_theory.specs.Positive.{met, Positive}
use Rattle.netlist.specs.Design.{Design}
use Rattle.psl_tree.specs.declared.atom.Edge.TheVariants.{Value}
use Rattle.psl_tree.specs.declared.letter.Letter.{Letter}
use Rattle.run_terms.specs.Letters.{letter_after}
use Rattle.gates_frames.specs.Paths.{valuation_of}

-- the valuation before a place of a path, if there is one
abbrev pub before_in : List (List Truth) → ℕ → Option (List Truth)
before_in path zero = None
before_in path (suc place) = Some (valuation_of path place)

-- the letter at a place of a path
abbrev pub letter_in : Design → List (List Truth) → ℕ → Letter
letter_in design path place = letter_after design.names (before_in path place) (valuation_of path place)

-- a combination tests the values of inputs, and nothing else
abbrev pub TestsInputs : Design → Positive → Type 0
TestsInputs design positive = AtomsOfPositive (λ atom. (atom.edge ≡ Value) × Contains design.inputs atom.signal) positive

-- Obligations that keep themselves met for as long as the inputs are those of a letter: each is accepting, and its delta
-- tests inputs alone and is met by the letter and by these obligations.
pub record Last (design : Design) (automaton : Automaton) (letter : Letter) (kept : ℕ → Truth) : Type 0 where
  pub accepting : (number : ℕ) → number < length automaton.obligations → IsTrue (kept number)
      → (obligation_at automaton.obligations number).accepting ≡ true
  pub inputs : (number : ℕ) → number < length automaton.obligations → IsTrue (kept number)
      → TestsInputs design (obligation_at automaton.obligations number).delta
  pub met : (number : ℕ) → number < length automaton.obligations → IsTrue (kept number)
      → IsTrue (met (obligation_at automaton.obligations number).delta letter kept)

-- What is owed at the places of a path and behind it: the start at the first place, the delta of what is owed is met by
-- the letter there and what is owed at the next place, and what is owed behind the last place lasts.
pub record IsMet (design : Design) (automaton : Automaton) (path : List (List Truth)) (owed : ℕ → ℕ → Truth) : Type 0 where
  pub begins : IsTrue (owed 0 automaton.start)
  pub meets : (place number : ℕ) → place < length path → number < length automaton.obligations → IsTrue (owed place number)
      → IsTrue (met (obligation_at automaton.obligations number).delta (letter_in design path place) (owed (suc place)))
  pub lasts : Last design automaton (letter_in design path (length path - 1)) (owed (length path))

-- The automaton accepts the word of the run that begins with a path and holds its inputs, as far as the path tells.
abbrev pub IsMetWhenHeld : Design → Automaton → List (List Truth) → Type 0
IsMetWhenHeld design automaton path = (owed : ℕ → ℕ → Truth) × IsMet design automaton path owed
