-- Satisfaction of formulas, without a clock and under one (IEEE 1850, Annex B). Each clause is a row
-- of the two tables, and "some" and "or" are those of Classical.
use Rattle.std.specs.Prelude.{ℕ, suc, ◌+◌, ◌<◌, IsTrue, Option, None, Some}
use Rattle.psl_tree.specs.Classical.{Exists, OneOf}
use Rattle.psl_tree.specs.Tick.{IsTick}
use Rattle.psl_tree.specs.Tight.{Tight}
use Rattle.psl_tree.specs.Trace.{Trace, suffix, dual, cut, first, is_place, holds_at}
use Rattle.psl_tree.specs.Trees.{Boolean, Sequence, Formula, Now, NowStrong, Weak, Strong, Not, And, Next, Until, Suffix, Abort, SyncAbort, Clocked}

-- a non-empty prefix of the trace satisfies the sequence tightly
abbrev pub HasTightPrefix : Trace → Sequence → Option Boolean → Type 0
HasTightPrefix trace sequence clock = Exists (λ j. IsTrue (is_place trace j) × Tight clock sequence (first (suc j) trace))

-- the trace satisfies the formula, under the clock or without one
abbrev pub Sat : Trace → Formula → Option Boolean → Type 0
-- b!: the trace is not empty and its first letter satisfies b
Sat trace (NowStrong test) None = IsTrue (holds_at trace 0 test)
-- b! under a clock: some prefix is a tick whose last letter satisfies b
Sat trace (NowStrong test) (Some clock) = Exists (λ j. IsTick trace clock j × IsTrue (holds_at trace j test))
-- b: the trace is empty or its first letter satisfies b
Sat trace (Now test) None = IsTrue (is_place trace 0) → IsTrue (holds_at trace 0 test)
-- b under a clock: for each j where the dual of the first j+1 letters is a tick, letter j satisfies b
Sat trace (Now test) (Some clock) = (j : ℕ) → IsTick (dual trace) clock j → IsTrue (holds_at trace j test)
-- r!: a non-empty prefix satisfies r tightly
Sat trace (Strong sequence) clock = HasTightPrefix trace sequence clock
-- r: for each place j, the first j+1 letters and then Top for ever satisfy r!
Sat trace (Weak sequence) clock = (j : ℕ) → IsTrue (is_place trace j) → HasTightPrefix (cut trace (suc j)) sequence clock
-- not f: the dual does not satisfy f
Sat trace (Not part) clock = Sat (dual trace) part clock → ⊥
-- f && g: the trace satisfies both
Sat trace (And left right) clock = Sat trace left clock × Sat trace right clock
-- X! f: the trace is longer than 1 and its suffix from 1 satisfies f
Sat trace (Next part) None = IsTrue (is_place trace 1) × Sat (suffix trace 1) part None
-- X! f under a clock: for some places j < k the letters up to j are a tick, those from j+1 to k are
-- a tick (here k is j+1+m), and the suffix from k satisfies f
Sat trace (Next part) (Some clock) =
    Exists (λ j. IsTick trace clock j × Exists (λ m. IsTick (suffix trace (suc j)) clock m × Sat (suffix trace (suc j + m)) part (Some clock)))
-- f U g: for some place k the suffix from k satisfies g, and for each j < k the suffix from j satisfies f
Sat trace (Until left right) None =
    Exists (λ k. IsTrue (is_place trace k) × Sat (suffix trace k) right None × ((j : ℕ) → j < k → Sat (suffix trace j) left None))
-- f U g under a clock: for some place k that satisfies the clock the suffix from k satisfies g, and
-- for each j < k where the dual of letter j satisfies the clock, the suffix from j satisfies f
Sat trace (Until left right) (Some clock) =
    Exists (λ k. IsTrue (holds_at trace k clock) × Sat (suffix trace k) right (Some clock)
    × ((j : ℕ) → j < k → IsTrue (holds_at (dual trace) j clock) → Sat (suffix trace j) left (Some clock)))
-- r |-> f: for each place j where the dual of the first j+1 letters satisfies r tightly, the suffix
-- from j satisfies f
Sat trace (Suffix sequence part) clock =
    (j : ℕ) → IsTrue (is_place trace j) → Tight clock sequence (first (suc j) (dual trace)) → Sat (suffix trace j) part clock
-- f async_abort b: the trace satisfies f, or for some place j letter j satisfies b and the first j
-- letters and then Top for ever satisfy f
Sat trace (Abort part test) clock =
    OneOf (Sat trace part clock) (Exists (λ j. IsTrue (holds_at trace j test) × Sat (cut trace j) part clock))
-- f sync_abort b without a clock is f async_abort b
Sat trace (SyncAbort part test) None =
    OneOf (Sat trace part None) (Exists (λ j. IsTrue (holds_at trace j test) × Sat (cut trace j) part None))
-- under a clock letter j satisfies the clock too
Sat trace (SyncAbort part test) (Some clock) =
    OneOf (Sat trace part (Some clock))
    (Exists (λ j. IsTrue (holds_at trace j clock) × IsTrue (holds_at trace j test) × Sat (cut trace j) part (Some clock)))
-- f @ d: f under d, whatever the clock is
Sat trace (Clocked part inner) _ = Sat trace part (Some inner)
