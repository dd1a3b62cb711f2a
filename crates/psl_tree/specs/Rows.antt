-- Worked examples of the definitions: formulas on words of a few letters, with what each view says.
use Rattle.std.specs.Prelude.{Bool as Truth, true, false, ℕ, List, [], ◌∷◌, ◌↔◌, IsTrue, None}
use Rattle.psl_tree.specs.Satisfaction.{Sat}
use Rattle.psl_tree.specs.Sugar.{always, eventually, implication, next_strong, next_weak}
use Rattle.psl_tree.specs.Trace.{trace_of}
use Rattle.psl_tree.specs.Views.{weak, neutral, strong}
use Rattle.psl_tree.specs.Trees.{Boolean, Sequence, Formula, Const, Test, One, Concat, Both, Now, Weak, Abort, SyncAbort, Clocked}
use Rattle.psl_tree.specs.declared.atom.Atom.{Atom}
use Rattle.psl_tree.specs.declared.atom.Edge.TheVariants.{Value, Rise}
use Rattle.psl_tree.specs.declared.letter.Letter.{Letter}
use Rattle.psl_tree.specs.declared.letter.Letter.TheVariants.{Holds}

-- the three views of a finite word satisfy the formula where these are true, and only there
pub record Views (formula : Formula) (letters : List Letter) (in_weak in_neutral in_strong : Truth) : Type 0 where
  pub in_weak_view : IsTrue in_weak ↔ Sat (trace_of (weak letters)) formula None
  pub in_neutral_view : IsTrue in_neutral ↔ Sat (trace_of (neutral letters)) formula None
  pub in_strong_view : IsTrue in_strong ↔ Sat (trace_of (strong letters)) formula None

-- the only bit of a signal
abbrev pub bit : ℕ → Atom
bit signal = record { signal = signal; bit = 0; edge = Value }

-- a and b, a clock, a reset and d, and a rise of the clock
abbrev pub a : Boolean
a = Test (bit 0)

abbrev pub b : Boolean
b = Test (bit 1)

abbrev pub clk : Boolean
clk = Test (bit 2)

abbrev pub rst : Boolean
rst = Test (bit 3)

abbrev pub d : Boolean
d = Test (bit 4)

abbrev pub clk_rises : Atom
clk_rises = record { signal = 2; bit = 0; edge = Rise }

-- letters on which these hold and nothing else does
abbrev pub on_none : Letter
on_none = Holds []

abbrev pub on_a : Letter
on_a = Holds (bit 0 ∷ [])

abbrev pub on_b : Letter
on_b = Holds (bit 1 ∷ [])

abbrev pub on_a_b : Letter
on_a_b = Holds (bit 0 ∷ bit 1 ∷ [])

abbrev pub on_rst : Letter
on_rst = Holds (bit 3 ∷ [])

abbrev pub on_clk : Letter
on_clk = Holds (bit 2 ∷ [])

abbrev pub on_a_clk : Letter
on_a_clk = Holds (bit 0 ∷ bit 2 ∷ [])

abbrev pub on_d_clk : Letter
on_d_clk = Holds (bit 4 ∷ bit 2 ∷ clk_rises ∷ [])

-- always (a -> next! b), and with next
abbrev pub handshake : Formula
handshake = always (implication (Now a) (next_strong (Now b)))

abbrev pub weak_handshake : Formula
weak_handshake = always (implication (Now a) (next_weak (Now b)))

-- {a;false}
abbrev pub a_then_false : Formula
a_then_false = Weak (Concat (One a) (One (Const false)))

-- {{a} && {b;true}}, two sequences of which no list has the lengths of both
abbrev pub clash : Sequence
clash = Both (One a) (Concat (One b) (One (Const true)))

-- (always a) async_abort rst, and the same with sync_abort
abbrev pub asynchronous : Formula
asynchronous = Abort (always (Now a)) rst

abbrev pub synchronous : Formula
synchronous = SyncAbort (always (Now a)) rst

-- a formula without sequences on words of one, two and three letters
pub record PlainRows : Type 0 where
  pub answered : Views handshake (on_a ∷ on_b ∷ []) true true false
  pub unanswered : Views handshake (on_a ∷ on_a_b ∷ []) true false false
  pub unanswered_weak : Views weak_handshake (on_a ∷ on_a_b ∷ []) true true false
  pub missed : Views handshake (on_a ∷ on_none ∷ []) false false false
  pub came : Views (eventually (Now b)) (on_none ∷ on_b ∷ []) true true true
  pub now_on_nothing : Views (Now a) [] true true false
  pub eventually_on_nothing : Views (eventually (Now a)) [] true false false
  pub aborted : Views asynchronous (on_a ∷ on_rst ∷ []) true true true

-- formulas under a clock
pub record ClockedRows : Type 0 where
  pub aborted_between_ticks : Views (Clocked asynchronous clk) (on_a_clk ∷ on_rst ∷ on_clk ∷ []) true true true
  pub aborted_at_ticks_alone : Views (Clocked synchronous clk) (on_a_clk ∷ on_rst ∷ on_clk ∷ []) false false false
  pub default_clock : Views (Clocked (always (Now d)) (Test clk_rises)) (on_none ∷ on_d_clk ∷ []) true true false

-- sequences, on words of one and two letters and on the empty word
pub record SequenceRows : Type 0 where
  pub one_letter : Views a_then_false (on_a ∷ []) true true false
  pub two_letters : Views a_then_false (on_a ∷ on_a ∷ []) false false false
  pub clash_on_nothing : Views (Weak clash) [] false true false
  pub clocked_clash_on_nothing : Views (Weak (Clocked clash (Const true))) [] true true false
