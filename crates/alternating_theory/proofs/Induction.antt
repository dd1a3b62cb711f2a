-- The part of each formula without clocks has a score on every course.
use Rattle.std.proofs.Common.{ℕ, ◌+◌, length}
use Rattle.psl_tree.specs.Trees as trees
use Rattle.psl_tree.specs.Trees.{Formula, Now, NowStrong, Weak, Strong, Next, Until, Suffix, Abort, SyncAbort, Clocked}
use Rattle.alternating_theory.specs.Construction.{part_of, HasNoClock}
use Rattle.alternating_theory.proofs.Means.{part-means}
use Rattle.alternating_theory.proofs.AbortScoring.{abort-score}
use Rattle.alternating_theory.proofs.PrefixScoring.{strong-score, weak-score}
use Rattle.alternating_theory.proofs.Scoring.{now-score, now_strong-score, not-score, and-score, next-score, until-score}
use Rattle.alternating_theory.proofs.Starts.{IsScored}
use Rattle.alternating_theory.proofs.SuffixScoring.{suffix-score}

pub part-scored : (offset : ℕ) (f : Formula) → HasNoClock f → IsScored offset (part_of offset f) f
part-scored offset (Now test) h = now-score offset test
part-scored offset (NowStrong test) h = now_strong-score offset test
part-scored offset (Weak r) h = weak-score offset r h
part-scored offset (Strong r) h = strong-score offset r h
part-scored offset (trees.Not f) h = not-score offset (part_of offset f) f (part-scored offset f h)
part-scored offset (trees.And f g) h = and-score offset (part_of offset f) (part_of (offset + length (part_of offset f).rest) g) f g
    (part-means offset f h.0) (part-means (offset + length (part_of offset f).rest) g h.1) (part-scored offset f h.0) (part-scored (offset + length (part_of offset f).rest) g h.1)
part-scored offset (Next f) h = next-score offset (part_of offset f) f (part-means offset f h) h (part-scored offset f h)
part-scored offset (Until f g) h = until-score offset (part_of offset f) (part_of (offset + length (part_of offset f).rest) g) f g
    (part-means offset f h.0) (part-means (offset + length (part_of offset f).rest) g h.1) h (part-scored offset f h.0) (part-scored (offset + length (part_of offset f).rest) g h.1)
part-scored offset (Suffix r f) h = suffix-score offset r h.0 (part_of offset f) f (part-means offset f h.1) h.1 (part-scored offset f h.1)
part-scored offset (Abort f test) h = abort-score offset test (part_of offset f) f (part-means offset f h) h (part-scored offset f h)
part-scored offset (SyncAbort f test) h = absurd h
part-scored offset (Clocked f clock) h = absurd h
