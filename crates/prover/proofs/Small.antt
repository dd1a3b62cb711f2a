-- A formula without a large sequence has small ones alone.
use Rattle.std.proofs.Common.{◌≤◌, ◌<◌, inl, inr, arith}
use Rattle.alternating.specs.Limits.{HasLargeSequence}
use Rattle.lasso_judge.specs.Limits.{HasSmallSequences}
use Rattle.psl_tree.specs.Counts.{states_of}
use Rattle.psl_tree.specs.Trees.{Sequence, Formula, Now, NowStrong, Weak, Strong, Not, And, Next, Until, Suffix, Abort, SyncAbort, Clocked}
use Rattle.psl_tree.specs.declared.counts.TheConstants.{MOST_STATES}

small-sequence : (r : Sequence) → (MOST_STATES < states_of r → ⊥) → states_of r ≤ MOST_STATES
small-sequence r n = omega (arith, n)

pub small-sequences : (f : Formula) → (HasLargeSequence f → ⊥) → HasSmallSequences f
small-sequences (Now b) n = tt
small-sequences (NowStrong b) n = tt
small-sequences (Weak r) n = small-sequence r n
small-sequences (Strong r) n = small-sequence r n
small-sequences (Not f) n = small-sequences f n
small-sequences (And f g) n = (small-sequences f (λ h. n (inl h)), small-sequences g (λ h. n (inr h)))
small-sequences (Next f) n = small-sequences f n
small-sequences (Until f g) n = (small-sequences f (λ h. n (inl h)), small-sequences g (λ h. n (inr h)))
small-sequences (Suffix r f) n = (small-sequence r (λ h. n (inl h)), small-sequences f (λ h. n (inr h)))
small-sequences (Abort f b) n = small-sequences f n
small-sequences (SyncAbort f b) n = small-sequences f n
small-sequences (Clocked f b) n = small-sequences f n
