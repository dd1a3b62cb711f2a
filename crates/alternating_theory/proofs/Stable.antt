-- Satisfaction follows from its double negation.
use Rattle.psl_tree.specs.Clockless.{IsPlain}
use Rattle.psl_tree.specs.Satisfaction.{Sat}
use Rattle.psl_tree.specs.Trace.{Trace, suffix, is_place, holds_at}
use Rattle.psl_tree.proofs.Choice.{stable-true}
use Rattle.std.specs.Prelude.{None}
use Rattle.psl_tree.specs.Trees.{Formula, Now, NowStrong, Weak, Strong, Not, And, Next, Until, Suffix, Abort, SyncAbort, Clocked}

pub stable : (f : Formula) → IsPlain f → (w : Trace) → ((Sat w f None → ⊥) → ⊥) → Sat w f None
stable (Now b) n w k = λ p. stable-true (holds_at w 0 b) (λ no. k (λ h. no (h p)))
stable (NowStrong b) n w k = stable-true (holds_at w 0 b) k
stable (Strong r) n w k = λ none. k (λ e. e none)
stable (Weak r) n w k = λ j p none. k (λ h. h j p none)
stable (Not f) n w k = λ h. k (λ no. no h)
stable (And f g) n w k = (stable f n.0 w (λ no. k (λ h. no h.0)), stable g n.1 w (λ no. k (λ h. no h.1)))
stable (Next f) n w k = (stable-true (is_place w 1) (λ no. k (λ h. no h.0)), stable f n (suffix w 1) (λ no. k (λ h. no h.1)))
stable (Until f g) n w k = λ none. k (λ e. e none)
stable (Suffix r f) n w k = λ j p t. stable f n.1 (suffix w j) (λ no. k (λ h. no (h j p t)))
stable (Abort f b) n w k = λ a c. k (λ e. e a c)
stable (SyncAbort f b) n w k = absurd n
stable (Clocked f b) n w k = absurd n
