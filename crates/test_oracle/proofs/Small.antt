-- A formula without a large sequence has small ones alone.
use Rattle.std.proofs.Common.{◌≤◌, ◌<◌, inl, inr, arith}
use Rattle.alternating.specs.Limits.{HasLargeSequence}
use Rattle.lasso_judge.specs.Limits.{HasSmallSequences}
use Rattle.psl_tree.specs.Counts.{states_of}
use Rattle.psl_tree.specs.Trees.{Sequence, Formula, Now, NowStrong, Weak, Strong, Not, And, Next, Until, Suffix, Abort, SyncAbort, Clocked}
use Rattle.psl_tree.specs.declared.counts.TheConstants.{MOST_STATES}

small_sequence : (r : Sequence) → (MOST_STATES < states_of r → ⊥) → states_of r ≤ MOST_STATES
small_sequence r n = omega (arith, n)

pub small_sequences : (f : Formula) → (HasLargeSequence f → ⊥) → HasSmallSequences f
small_sequences (Now b) n = tt
small_sequences (NowStrong b) n = tt
small_sequences (Weak r) n = small_sequence r n
small_sequences (Strong r) n = small_sequence r n
small_sequences (Not f) n = small_sequences f n
small_sequences (And f g) n = (small_sequences f (λ h. n (inl h)), small_sequences g (λ h. n (inr h)))
small_sequences (Next f) n = small_sequences f n
small_sequences (Until f g) n = (small_sequences f (λ h. n (inl h)), small_sequences g (λ h. n (inr h)))
small_sequences (Suffix r f) n = (small_sequence r (λ h. n (inl h)), small_sequences f (λ h. n (inr h)))
small_sequences (Abort f b) n = small_sequences f n
small_sequences (SyncAbort f b) n = small_sequences f n
small_sequences (Clocked f b) n = small_sequences f n
