-- What the judge computes on its way: which atoms hold at a place of a path, which obligations last behind it, and what
-- is met at its places.
use Rattle.std.specs.Prelude.{◌≡◌, ◌↔◌, ℕ, zero, suc, ◌+◌, ◌-◌, ◌<◌, Bool as Truth, true, false, ◌&&◌, if◌then◌else◌, List, [], ◌∷◌, length, All, Contains, IsTrue}
use Rattle.alternating_theory.specs.Obligations.{Automaton, obligation_at}
use Rattle.alternating_theory.specs.Positive.{met, Positive}
use Rattle.alternating_theory.specs.Positive as positives
use Rattle.gates_frames.specs.Paths.{valuation_of}
use Rattle.netlist.specs.Design.{Design}
use Rattle.netlist.specs.Valuations.{bit}
use Rattle.psl_tree.specs.Letters.{atom_at}
use Rattle.psl_tree.specs.Trees as trees
use Rattle.psl_tree.specs.Trees.{Boolean}
use Rattle.psl_tree.specs.declared.atom.Atom.{Atom}
use Rattle.psl_tree.specs.declared.atom.Edge.{Edge}
use Rattle.psl_tree.specs.declared.atom.Edge.TheVariants.{Value, Rise, Fall}
use Rattle.psl_tree.specs.declared.letter.Letter.{Letter}
use Rattle.run_terms.specs.Letters.{bits_after, sample_after}
use Rattle.prover_held.specs.Lasting.{before_in, letter_in, Last, TestsInputs}

-- each valuation has a value for each signal
abbrev pub HaveSignals : Design → List (List Truth) → Type 0
HaveSignals design path = All (λ valuation. length valuation ≡ design.signals) path

-- whether an atom holds at a place of a path
abbrev pub atom_in : List (List Truth) → ℕ → Atom → Truth
atom_in path place atom = atom_at (bits_after (before_in path place) (valuation_of path place)) (sample_after (before_in path place)) atom

-- the letter at the last place of a path
abbrev pub last_letter : Design → List (List Truth) → Letter
last_letter design path = letter_in design path (length path - 1)

abbrev pub is_value : Edge → Truth
is_value Value = true
is_value Rise = false
is_value Fall = false

-- a Boolean tests the values of signals that have a mark, and nothing else
abbrev pub boolean_marked : List Truth → Boolean → Truth
boolean_marked marks (trees.Const value) = true
boolean_marked marks (trees.Test atom) = is_value atom.edge && bit marks atom.signal
boolean_marked marks (trees.Not part) = boolean_marked marks part
boolean_marked marks (trees.And left right) = boolean_marked marks left && boolean_marked marks right
boolean_marked marks (trees.Or left right) = boolean_marked marks left && boolean_marked marks right

-- and so does a combination
abbrev pub positive_marked : List Truth → Positive → Truth
positive_marked marks (positives.Const value) = true
positive_marked marks (positives.Holds test) = boolean_marked marks test
positive_marked marks (positives.Owed number) = true
positive_marked marks (positives.And left right) = positive_marked marks left && positive_marked marks right
positive_marked marks (positives.Or left right) = positive_marked marks left && positive_marked marks right

-- the inputs have a mark, and no other signal has
abbrev pub AreMarks : Design → List Truth → Type 0
AreMarks design marks = (signal : ℕ) → IsTrue (bit marks signal) ↔ Contains design.inputs signal

-- an obligation is accepting, and its delta tests inputs alone
abbrev pub IsCandidate : Design → Automaton → ℕ → Type 0
IsCandidate design automaton number =
    ((obligation_at automaton.obligations number).accepting ≡ true) × TestsInputs design (obligation_at automaton.obligations number).delta

-- of the obligations those that are candidates
pub record AreCandidates (design : Design) (automaton : Automaton) (kept : List Truth) : Type 0 where
  pub long : length kept ≡ length automaton.obligations
  pub each : (number : ℕ) → number < length automaton.obligations → IsTrue (bit kept number) ↔ IsCandidate design automaton number

-- the obligations of a set are among those that are kept
abbrev pub AreAmong : Automaton → (ℕ → Truth) → List Truth → Type 0
AreAmong automaton set kept = (number : ℕ) → number < length automaton.obligations → IsTrue (set number) → IsTrue (bit kept number)

-- how many are kept
abbrev pub count_kept : List Truth → ℕ
count_kept [] = 0
count_kept (kept ∷ others) = (if kept then 1 else 0) + count_kept others

-- A pass over the obligations up to a number, which drops those that the last letter and the kept ones do not meet. It
-- drops none of a set that lasts, and tells whether it dropped one.
pub record Sweeps (design : Design) (automaton : Automaton) (path : List (List Truth)) (upto : ℕ) (old new : List Truth) (more : Truth) : Type 0 where
  pub long : length new ≡ length old
  pub below : (number : ℕ) → IsTrue (bit new number) → IsTrue (bit old number)
  pub largest : (set : ℕ → Truth) → Last design automaton (last_letter design path) set → AreAmong automaton set old → AreAmong automaton set new
  pub same : more ≡ false → new ≡ old
  pub meets : more ≡ false → (number : ℕ) → number < upto → IsTrue (bit new number)
      → IsTrue (met (obligation_at automaton.obligations number).delta (last_letter design path) (bit new))
  pub fewer : more ≡ true → count_kept new < count_kept old

-- what is kept while more may be dropped
pub record Narrows (design : Design) (automaton : Automaton) (path : List (List Truth)) (kept : List Truth) (more : Truth) : Type 0 where
  pub long : length kept ≡ length automaton.obligations
  pub candidates : (number : ℕ) → number < length automaton.obligations → IsTrue (bit kept number) → IsCandidate design automaton number
  pub largest : (set : ℕ → Truth) → Last design automaton (last_letter design path) set → AreAmong automaton set kept
  pub meets : more ≡ false → (number : ℕ) → number < length automaton.obligations → IsTrue (bit kept number)
      → IsTrue (met (obligation_at automaton.obligations number).delta (last_letter design path) (bit kept))

-- the largest set that lasts
pub record IsLargest (design : Design) (automaton : Automaton) (path : List (List Truth)) (kept : List Truth) : Type 0 where
  pub long : length kept ≡ length automaton.obligations
  pub lasts : Last design automaton (last_letter design path) (bit kept)
  pub largest : (set : ℕ → Truth) → Last design automaton (last_letter design path) set → AreAmong automaton set kept

-- what is met so many places before the end of a path, where this is owed behind it
abbrev pub asked : Design → Automaton → List (List Truth) → (ℕ → Truth) → ℕ → ℕ → Truth
asked design automaton path kept zero number = kept number
asked design automaton path kept (suc count) number =
    met (obligation_at automaton.obligations number).delta (letter_in design path (length path - suc count)) (asked design automaton path kept count)

-- values of all obligations
pub record AreAsked (design : Design) (automaton : Automaton) (path : List (List Truth)) (kept : ℕ → Truth) (count : ℕ) (found : List Truth) : Type 0 where
  pub long : length found ≡ length automaton.obligations
  pub each : (number : ℕ) → number < length automaton.obligations → bit found number ≡ asked design automaton path kept count number
