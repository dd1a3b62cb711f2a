-- Satisfaction follows from its double negation.
use Rattle.std.specs.Prelude.{Option, None, Some}
use Rattle.psl_tree.proofs.Choice.{stable-true}
use Rattle.psl_tree.specs.Satisfaction.{Sat}
use Rattle.psl_tree.specs.Trace.{Trace, suffix, is_place, holds_at}
use Rattle.psl_tree.specs.Trees.{Boolean, Formula, Now, NowStrong, Weak, Strong, Not, And, Next, Until, Suffix, Abort, SyncAbort, Clocked}

-- a negation does: each "some" and "or" is one
stable-not : {A : Type 0} → (((A → ⊥) → ⊥) → ⊥) → A → ⊥
stable-not n a = n (λ k. k a)

pub stable : (f : Formula) (c : Option Boolean) (w : Trace) → ((Sat w f c → ⊥) → ⊥) → Sat w f c
stable (Now b) None w n = λ p. stable-true (holds_at w 0 b) (λ k. n (λ s. k (s p)))
stable (Now b) (Some c) w n = λ j t. stable-true (holds_at w j b) (λ k. n (λ s. k (s j t)))
stable (NowStrong b) None w n = stable-true (holds_at w 0 b) n
stable (NowStrong b) (Some c) w n = stable-not n
stable (Weak r) c w n = λ j p. stable-not (λ k. n (λ s. k (s j p)))
stable (Strong r) c w n = stable-not n
stable (Not f) c w n = stable-not n
stable (And f g) c w n = (stable f c w (λ k. n (λ s. k s.0)), stable g c w (λ k. n (λ s. k s.1)))
stable (Next f) None w n = (stable-true (is_place w 1) (λ k. n (λ s. k s.0)), stable f None (suffix w 1) (λ k. n (λ s. k s.1)))
stable (Next f) (Some c) w n = stable-not n
stable (Until f g) None w n = stable-not n
stable (Until f g) (Some c) w n = stable-not n
stable (Suffix r f) c w n = λ j p t. stable f c (suffix w j) (λ k. n (λ s. k (s j p t)))
stable (Abort f b) c w n = λ x y. n (λ s. s x y)
stable (SyncAbort f b) None w n = λ x y. n (λ s. s x y)
stable (SyncAbort f b) (Some c) w n = λ x y. n (λ s. s x y)
stable (Clocked f d) c w n = stable f (Some d) w n
