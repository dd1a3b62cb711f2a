-- The rewritten formula is satisfied by the words that satisfy the formula under the clock.
use Rattle.std.specs.Prelude.{◌↔◌, suc, Option, None, Some}
use Rattle.clock_rewrite.proofs.Gaps.{suffix-gaps, dual-gaps, word-gaps}
use Rattle.clock_rewrite.proofs.Sequences.{tight-same}
use Rattle.clock_rewrite.proofs.UnderClock.{IsRewritten, now-row, now_strong-row, next-row, until-row, abort-row, sync_abort-row}
use Rattle.clock_rewrite.specs.Clock.{HasSameWords}
use Rattle.psl_tree.proofs.Choice.{exists-same}
use Rattle.psl_tree.specs.Plain.{plain, plain_sequence}
use Rattle.psl_tree.specs.Satisfaction.{HasTightPrefix}
use Rattle.psl_tree.specs.Trace.{Trace, suffix, dual, cut, first, trace_of}
use Rattle.psl_tree.specs.Trees.{Boolean, Sequence, Formula, Now, NowStrong, Weak, Strong, Not, And, Next, Until, Suffix, Abort, SyncAbort, Clocked}

prefix-same : (w : Trace) (r : Sequence) (c : Option Boolean) → HasTightPrefix w (plain_sequence r c) None ↔ HasTightPrefix w r c
prefix-same w r c = exists-same (λ j. (
  λ u. (u.0, (tight-same r c (first (suc j) w)).0 u.1),
  λ u. (u.0, (tight-same r c (first (suc j) w)).1 u.1),
))

suffix-row : (c : Option Boolean) (r : Sequence) (f : Formula) → IsRewritten f c → IsRewritten (Suffix r f) c
suffix-row c r f same w gaps = (
  λ h j p t. (same (suffix w j) (suffix-gaps w j gaps)).0 (h j p ((tight-same r c (first (suc j) (dual w))).1 t)),
  λ h j p t. (same (suffix w j) (suffix-gaps w j gaps)).1 (h j p ((tight-same r c (first (suc j) (dual w))).0 t)),
)

until-none : (f g : Formula) → IsRewritten f None → IsRewritten g None → IsRewritten (Until f g) None
until-none f g same-f same-g w gaps = exists-same (λ k. (
  λ u. (u.0, (same-g (suffix w k) (suffix-gaps w k gaps)).0 u.1, λ j lt. (same-f (suffix w j) (suffix-gaps w j gaps)).0 (u.2 j lt)),
  λ u. (u.0, (same-g (suffix w k) (suffix-gaps w k gaps)).1 u.1, λ j lt. (same-f (suffix w j) (suffix-gaps w j gaps)).1 (u.2 j lt)),
))

pub plain-same : (f : Formula) (c : Option Boolean) → IsRewritten f c
plain-same (Now b) None w gaps = (λ s. s, λ s. s)
plain-same (Now b) (Some c) w gaps = now-row c b w gaps
plain-same (NowStrong b) None w gaps = (λ s. s, λ s. s)
plain-same (NowStrong b) (Some c) w gaps = now_strong-row c b w gaps
plain-same (Weak r) c w gaps = (
  λ h j p. (prefix-same (cut w (suc j)) r c).0 (h j p),
  λ h j p. (prefix-same (cut w (suc j)) r c).1 (h j p),
)
plain-same (Strong r) c w gaps = prefix-same w r c
plain-same (Not f) c w gaps = let same = plain-same f c (dual w) (dual-gaps w gaps) in (λ n s. n (same.1 s), λ n s. n (same.0 s))
plain-same (And f g) c w gaps = let same-f = plain-same f c w gaps in let same-g = plain-same g c w gaps in (
  λ s. (same-f.0 s.0, same-g.0 s.1),
  λ s. (same-f.1 s.0, same-g.1 s.1),
)
plain-same (Next f) None w gaps = let same = plain-same f None (suffix w 1) (suffix-gaps w 1 gaps) in (λ s. (s.0, same.0 s.1), λ s. (s.0, same.1 s.1))
plain-same (Next f) (Some c) w gaps = next-row c f (plain-same f (Some c)) w gaps
plain-same (Until f g) None w gaps = until-none f g (plain-same f None) (plain-same g None) w gaps
plain-same (Until f g) (Some c) w gaps = until-row c f g (plain-same f (Some c)) (plain-same g (Some c)) w gaps
plain-same (Suffix r f) c w gaps = suffix-row c r f (plain-same f c) w gaps
plain-same (Abort f b) c w gaps = abort-row c f b (plain-same f c) w gaps
plain-same (SyncAbort f b) None w gaps = abort-row None f b (plain-same f None) w gaps
plain-same (SyncAbort f b) (Some c) w gaps = sync_abort-row c f b (plain-same f (Some c)) w gaps
plain-same (Clocked f d) c w gaps = plain-same f (Some d) w gaps

pub plain_words : (f : Formula) (c : Option Boolean) → HasSameWords (plain f c) f c
plain_words f c = λ word. plain-same f c (trace_of word) (word-gaps word)
