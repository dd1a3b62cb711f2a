-- Runs of a netlist, and the words that they stand for.
use Rattle.std.specs.Prelude.{◌≡◌, ℕ, suc, ◌<◌, Bool as Truth, List, [], ◌++◌, map, take, length, slice_index_or, All}
use Rattle.std.specs.List.{range_with_len}
use Rattle.psl_tree.specs.Letters.{Bits, letter_at}
use Rattle.psl_tree.specs.declared.letter.Letter.{Letter}
use Rattle.psl_tree.specs.declared.letter.Word.{Word}
use Rattle.netlist.specs.Design.{Design}
use Rattle.netlist.specs.Valuations.{bit, IsValuation, IsInitial, IsStep, Move}
use Rattle.netlist.specs.declared.run.Run.{Run}

-- the valuations of a run in order, that with which its loop begins once more at the end
abbrev pub walk_of : Run → List (List Truth)
walk_of run = run.stem ++ run.loop_part ++ take 1 run.loop_part

abbrev pub valuation_at : Run → ℕ → List Truth
valuation_at run place = slice_index_or (walk_of run) place []

-- a run: the loop is not empty, the first valuation is initial, and from each valuation to the next there is a step;
-- also from the last one of the loop to its first
pub record IsRun (design : Design) (run : Run) : Type 0 where
  pub loops : 0 < length run.loop_part
  pub begins : IsInitial design (valuation_at run 0)
  pub steps : (place : ℕ) → suc place < length (walk_of run) → IsStep design (valuation_at run place) (valuation_at run (suc place))

-- a stem and a loop that are made of valuations, where there is a loop
pub record IsMade (design : Design) (run : Run) : Type 0 where
  pub loops : 0 < length run.loop_part
  pub stem : All (IsValuation design) run.stem
  pub looped : All (IsValuation design) run.loop_part

-- each valuation of a run has a value for each signal
abbrev pub AreSized : Design → Run → Type 0
AreSized design run = (place : ℕ) → place < length (walk_of run) → length (valuation_at run place) ≡ design.signals

-- the latches move from each valuation of a run to the next
abbrev pub Moves : Design → Run → Type 0
Moves design run = (place : ℕ) → suc place < length (walk_of run) → Move design.latches (valuation_at run place) (valuation_at run (suc place))

-- the values of signals at the places of a run; a signal has one bit
abbrev pub bits_of : Run → Bits
bits_of run place signal _ = bit (valuation_at run place) signal

-- so many letters of a run from a place on
abbrev pub letters_from : Design → Run → ℕ → ℕ → List Letter
letters_from design run first count = map (letter_at (bits_of run) design.names) (range_with_len first count)

-- the word of a run. Its stem goes one letter into the loop, whose first valuation comes once more at the end of the
-- word's loop: there its letter has the edges from the last valuation, which it has not where the loop is entered. So
-- the word has one place more than the run has valuations.
abbrev pub word : Design → Run → Word
word design run = record {
  stem = letters_from design run 0 (suc (length run.stem));
  looped = letters_from design run (suc (length run.stem)) (length run.loop_part);
}
