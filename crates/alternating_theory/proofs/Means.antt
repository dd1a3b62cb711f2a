-- The part of a formula without clocks says what the formula says, on each finite word in each view.
use Rattle.std.proofs.Common.{ℕ, ◌+◌, length}
use Rattle.psl_tree.specs.Trees as trees
use Rattle.psl_tree.specs.Trees.{Formula, Now, NowStrong, Weak, Strong, Next, Until, Suffix, Abort, SyncAbort, Clocked}
use Rattle.alternating_theory.specs.Construction.{part_of, HasNoClock}
use Rattle.alternating_theory.proofs.Aborts.{abort-is}
use Rattle.alternating_theory.proofs.Joined.{and-is, next-is}
use Rattle.alternating_theory.proofs.Opposites.{not-is}
use Rattle.alternating_theory.proofs.Parts.{IsPartOf, now-is, now_strong-is}
use Rattle.alternating_theory.proofs.Sequences.{strong-is, weak-is, suffix-is}
use Rattle.alternating_theory.proofs.Untils.{until-is}

pub part-means : (offset : ℕ) (f : Formula) → HasNoClock f → IsPartOf offset (part_of offset f) f
part-means offset (Now test) h = now-is offset test
part-means offset (NowStrong test) h = now_strong-is offset test
part-means offset (Weak r) h = weak-is offset r h
part-means offset (Strong r) h = strong-is offset r h
part-means offset (trees.Not f) h = not-is offset (part_of offset f) f (part-means offset f h)
part-means offset (trees.And f g) h = and-is offset (part_of offset f) (part_of (offset + length (part_of offset f).rest) g) f g
    (part-means offset f h.0) (part-means (offset + length (part_of offset f).rest) g h.1)
part-means offset (Next f) h = next-is offset (part_of offset f) f (part-means offset f h)
part-means offset (Until f g) h = until-is offset (part_of offset f) (part_of (offset + length (part_of offset f).rest) g) f g
    (part-means offset f h.0) (part-means (offset + length (part_of offset f).rest) g h.1)
part-means offset (Suffix r f) h = suffix-is offset r h.0 (part_of offset f) f (part-means offset f h.1)
part-means offset (Abort f test) h = abort-is offset test (part_of offset f) f (part-means offset f h)
part-means offset (SyncAbort f test) h = absurd h
part-means offset (Clocked f clock) h = absurd h
