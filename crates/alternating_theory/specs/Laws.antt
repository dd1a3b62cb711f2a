-- What holds of the automaton of each formula without clocks.
use Rattle.std.specs.Prelude.{◌≡◌, ◌↔◌, ◌≤◌, ◌<◌, ◌+◌, ℕ, List, [], length, IsTrue, None}
use Rattle.psl_tree.specs.Followed.{Past, Nothing, Tops, Bottoms}
use Rattle.psl_tree.specs.Satisfaction.{Sat}
use Rattle.psl_tree.specs.Trace.{trace_of}
use Rattle.psl_tree.specs.Views.{weak, neutral, strong}
use Rattle.psl_tree.specs.Counts.{obligations_of}
use Rattle.psl_tree.specs.Trees.{Formula}
use Rattle.psl_tree.specs.declared.letter.Letter.{Letter}
use Rattle.alternating_theory.specs.Obligations.{Automaton, obligation_at, value_on, IsReached}
use Rattle.alternating_theory.specs.Positive.{OwesWithin}

-- on each finite word, letters Top and Bottom among its letters, the automaton's value is satisfaction
-- in each of the three views, and its start's values past the word are satisfaction on the empty word,
-- on Top for ever and on Bottom for ever
pub record ValuesOf (automaton : Automaton) (formula : Formula) : Type 0 where
  pub on_word : (letters : List Letter) → IsTrue (value_on automaton Nothing letters) ↔ Sat (trace_of (neutral letters)) formula None
  pub on_weak : (letters : List Letter) → IsTrue (value_on automaton Tops letters) ↔ Sat (trace_of (weak letters)) formula None
  pub on_strong : (letters : List Letter) → IsTrue (value_on automaton Bottoms letters) ↔ Sat (trace_of (strong letters)) formula None
  pub at_end : IsTrue (obligation_at automaton.obligations automaton.start).end ↔ Sat (trace_of (neutral [])) formula None
  pub at_top : IsTrue (obligation_at automaton.obligations automaton.start).top ↔ Sat (trace_of (weak [])) formula None
  pub at_bottom : IsTrue (obligation_at automaton.obligations automaton.start).bottom ↔ Sat (trace_of (strong [])) formula None

-- the start is the last obligation, no obligation owes it, and each of the others is owed by the delta
-- of one that is reached from the start
pub record NamesOf (automaton : Automaton) : Type 0 where
  pub start_last : length automaton.obligations ≡ automaton.start + 1
  pub owed_below : (number : ℕ) → number < length automaton.obligations → OwesWithin 0 automaton.start (obligation_at automaton.obligations number).delta
  pub all_reached : (number : ℕ) → number < length automaton.obligations → IsReached automaton number

-- it has at most as many obligations as the formula counts
abbrev pub SizeOf : Automaton → Formula → Type 0
SizeOf automaton formula = length automaton.obligations ≤ obligations_of formula

-- another automaton has the same value on each finite word in each view, its numbers are right, and it is
-- no longer
pub record KeepsValues (automaton other : Automaton) : Type 0 where
  pub values : (past : Past) (letters : List Letter) → value_on other past letters ≡ value_on automaton past letters
  pub names : NamesOf other
  pub fewer : length other.obligations ≤ length automaton.obligations
