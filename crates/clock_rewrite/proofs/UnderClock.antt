-- Each row of the table under a clock says what its form does, where the parts' rewritten forms do.
use Rattle.std.proofs.Common.{◌≡◌, sym, ap, subst, ℕ, suc, ◌+◌, ◌<◌, arith, Option, None, Some}
use Rattle.std.specs.Prelude.{◌↔◌, IsTrue}
use mathlib.Core.Path.{fun_ext}
use Rattle.clock_rewrite.proofs.Gaps.{HasNoGaps, suffix-gaps, dual-gaps, cut-gaps, place-dual, place-undual}
use Rattle.clock_rewrite.proofs.Letters.{stands, and-holds, not-holds_dual}
use Rattle.clock_rewrite.proofs.Stable.{stable}
use Rattle.psl_tree.proofs.Choice.{stable-true, from-exists, exists-map, exists-same, either-same, iff-trans}
use Rattle.psl_tree.proofs.Traces.{plus-zero, dual-twice}
use Rattle.psl_tree.specs.Classical.{Exists}
use Rattle.psl_tree.specs.Plain.{no_tick, tick_with, at_tick, first_tick, now_at_tick, plain}
use Rattle.psl_tree.specs.Satisfaction.{Sat}
use Rattle.psl_tree.specs.Tick.{IsTick}
use Rattle.psl_tree.specs.Trace.{Trace, suffix, dual, cut, is_place, holds_at}
use Rattle.psl_tree.specs.Trees.{Boolean, Formula, Now, NowStrong, Not, And, Next, Until, Abort, SyncAbort}

-- the rewritten formula is satisfied by the traces without gaps that satisfy the formula under the clock
abbrev pub IsRewritten : Formula → Option Boolean → Type 0
IsRewritten f c = (w : Trace) → HasNoGaps w → Sat w (plain f c) None ↔ Sat w f c

-- a Boolean at a place
now-at : (w : Trace) (k : ℕ) (b : Boolean) → Sat (suffix w k) (Now b) None ↔ (IsTrue (is_place w k) → IsTrue (holds_at w k b))
now-at w k b = (
  λ s. subst (λ (n : ℕ). IsTrue (is_place w n) → IsTrue (holds_at w n b)) (plus-zero k) s,
  λ s. subst (λ (n : ℕ). IsTrue (is_place w n) → IsTrue (holds_at w n b)) (sym (plus-zero k)) s,
)

-- a tick of the clock, and what else holds there
tick_with-at : (w : Trace) (c b : Boolean) (k : ℕ) → IsTrue (is_place w k)
    → Sat (suffix w k) (tick_with c b) None ↔ (IsTrue (holds_at w k c) × IsTrue (holds_at w k b))
tick_with-at w c b k p = (
  λ s. (and-holds (w k) c b).0 ((now-at w k (And c b)).0 s p),
  λ u. (now-at w k (And c b)).1 (λ _. (and-holds (w k) c b).1 u),
)

at_tick-at : (w : Trace) (c : Boolean) (f : Formula) (R : Type 0) (k : ℕ) → Sat (suffix w k) f None ↔ R → IsTrue (is_place w k)
    → Sat (suffix w k) (at_tick c f) None ↔ (IsTrue (holds_at w k c) × R)
at_tick-at w c f R k same p = (
  λ s. ((now-at w k c).0 s.0 p, same.0 s.1),
  λ u. ((now-at w k c).1 (λ _. u.0), same.1 u.1),
)

-- the first tick, and what else is so there
tick-until : (w : Trace) (c : Boolean) (g : Formula) (Q : ℕ → Type 0) → HasNoGaps w
    → ((k : ℕ) → IsTrue (is_place w k) → Sat (suffix w k) g None ↔ (IsTrue (holds_at w k c) × Q k))
    → Sat w (Until (no_tick c) g) None ↔ Exists (λ j. IsTick w c j × Q j)
tick-until w c g Q gaps h = (exists-map there, exists-map back)
  where
    there : (k : ℕ) → IsTrue (is_place w k) × Sat (suffix w k) g None × ((j : ℕ) → j < k → Sat (suffix w j) (no_tick c) None) → IsTick w c k × Q k
    there k u = let s = (h k u.0).0 u.1 in
        ((s.0, λ j lt. (now-at w j (Not c)).0 (u.2 j lt) (gaps j k (omega arith) u.0)), s.1)

    back : (k : ℕ) → IsTick w c k × Q k → IsTrue (is_place w k) × Sat (suffix w k) g None × ((j : ℕ) → j < k → Sat (suffix w j) (no_tick c) None)
    back k u = let p = stands (w k) c u.0.0 in
        (p, (h k p).1 (u.0.0, u.1), λ j lt. (now-at w j (Not c)).1 (λ _. u.0.1 j lt))

-- b!
pub now_strong-row : (c b : Boolean) → IsRewritten (NowStrong b) (Some c)
now_strong-row c b w gaps = tick-until w c (tick_with c b) (λ j. IsTrue (holds_at w j b)) gaps (λ k p. tick_with-at w c b k p)

-- b
pub now-row : (c b : Boolean) → IsRewritten (Now b) (Some c)
now-row c b w gaps = (there, back)
  where
    missed : Sat (dual w) (Until (no_tick c) (tick_with c (Not b))) None ↔ Exists (λ j. IsTick (dual w) c j × IsTrue (holds_at (dual w) j (Not b)))
    missed = tick-until (dual w) c (tick_with c (Not b)) (λ j. IsTrue (holds_at (dual w) j (Not b))) (dual-gaps w gaps) (λ k p. tick_with-at (dual w) c (Not b) k p)

    place : (j : ℕ) → IsTick (dual w) c j → IsTrue (is_place w j)
    place j t = place-undual w j (stands (dual w j) c t.0)

    there : Sat w (now_at_tick c b) None → (j : ℕ) → IsTick (dual w) c j → IsTrue (holds_at w j b)
    there n j t = stable-true (holds_at w j b) (λ m. n (missed.1 (λ none. none j (t, (not-holds_dual (w j) b (place j t)).1 m))))

    back : ((j : ℕ) → IsTick (dual w) c j → IsTrue (holds_at w j b)) → Sat w (now_at_tick c b) None
    back h s = missed.0 s (λ j u. (not-holds_dual (w j) b (place j u.0)).0 u.1 (h j u.0))

-- the first tick, and there a formula
first-tick : (w : Trace) (c : Boolean) (f : Formula) → HasNoGaps w → IsRewritten f (Some c)
    → Sat w (first_tick c (plain f (Some c))) None ↔ Exists (λ m. IsTick w c m × Sat (suffix w m) f (Some c))
first-tick w c f gaps same = tick-until w c (at_tick c (plain f (Some c))) (λ m. Sat (suffix w m) f (Some c)) gaps
    (λ k p. at_tick-at w c (plain f (Some c)) (Sat (suffix w k) f (Some c)) k (same (suffix w k) (suffix-gaps w k gaps)) p)

suffix-next : (w : Trace) (k : ℕ) → suffix (suffix w k) 1 ≡ suffix w (suc k)
suffix-next w k = fun_ext (λ i. ap w (omega arith))

suffix-suffix : (w : Trace) (k m : ℕ) → suffix (suffix w k) m ≡ suffix w (k + m)
suffix-suffix w k m = fun_ext (λ i. ap w (omega arith))

-- X! f
pub next-row : (c : Boolean) (f : Formula) → IsRewritten f (Some c) → IsRewritten (Next f) (Some c)
next-row c f same w gaps = tick-until w c (at_tick c (Next second)) Then gaps (λ k p. at_tick-at w c (Next second) (Then k) k (then k) p)
  where
    second : Formula
    second = first_tick c (plain f (Some c))

    Then : ℕ → Type 0
    Then k = Exists (λ m. IsTick (suffix w (suc k)) c m × Sat (suffix w (suc k + m)) f (Some c))

    inner : (k : ℕ) → Sat (suffix w (suc k)) second None ↔ Then k
    inner k = iff-trans (first-tick (suffix w (suc k)) c f (suffix-gaps w (suc k) gaps) same) (exists-same (λ m. (
      λ u. (u.0, subst (λ (v : Trace). Sat v f (Some c)) (suffix-suffix w (suc k) m) u.1),
      λ u. (u.0, subst (λ (v : Trace). Sat v f (Some c)) (sym (suffix-suffix w (suc k) m)) u.1),
    )))

    then : (k : ℕ) → Sat (suffix w k) (Next second) None ↔ Then k
    then k = (there, back)
      where
        there : Sat (suffix w k) (Next second) None → Then k
        there s = (inner k).0 (subst (λ (v : Trace). Sat v second None) (suffix-next w k) s.1)

        back : Then k → Sat (suffix w k) (Next second) None
        back e = (
          from-exists (is_place w (k + 1)) e (λ m u. gaps (k + 1) (suc k + m) (omega arith) (stands (w (suc k + m)) c u.0.0)),
          subst (λ (v : Trace). Sat v second None) (sym (suffix-next w k)) ((inner k).1 e),
        )

-- f U g
pub until-row : (c : Boolean) (f g : Formula) → IsRewritten f (Some c) → IsRewritten g (Some c) → IsRewritten (Until f g) (Some c)
until-row c f g same-f same-g w gaps = (exists-map there, exists-map back)
  where
    f' : Formula
    f' = plain f (Some c)

    g' : Formula
    g' = plain g (Some c)

    left : (j : ℕ) → IsTrue (is_place w j)
        → Sat (suffix w j) (Not (at_tick c (Not f'))) None ↔ (IsTrue (holds_at (dual w) j c) → Sat (suffix w j) f (Some c))
    left j p = (to, from)
      where
        same : Sat (suffix w j) f' None ↔ Sat (suffix w j) f (Some c)
        same = same-f (suffix w j) (suffix-gaps w j gaps)

        to : Sat (suffix w j) (Not (at_tick c (Not f'))) None → IsTrue (holds_at (dual w) j c) → Sat (suffix w j) f (Some c)
        to n t = stable f (Some c) (suffix w j) (λ m. n (
          (now-at (dual w) j c).1 (λ _. t),
          λ s. m (same.0 (subst (λ (v : Trace). Sat v f' None) (dual-twice (suffix w j)) s)),
        ))

        from : (IsTrue (holds_at (dual w) j c) → Sat (suffix w j) f (Some c)) → Sat (suffix w j) (Not (at_tick c (Not f'))) None
        from h u = u.1 (subst (λ (v : Trace). Sat v f' None) (sym (dual-twice (suffix w j))) (same.1 (h ((now-at (dual w) j c).0 u.0 (place-dual w j p)))))

    right : (k : ℕ) → IsTrue (is_place w k) → Sat (suffix w k) (at_tick c g') None ↔ (IsTrue (holds_at w k c) × Sat (suffix w k) g (Some c))
    right k p = at_tick-at w c g' (Sat (suffix w k) g (Some c)) k (same-g (suffix w k) (suffix-gaps w k gaps)) p

    there : (k : ℕ) → IsTrue (is_place w k) × Sat (suffix w k) (at_tick c g') None × ((j : ℕ) → j < k → Sat (suffix w j) (Not (at_tick c (Not f'))) None)
        → IsTrue (holds_at w k c) × Sat (suffix w k) g (Some c) × ((j : ℕ) → j < k → IsTrue (holds_at (dual w) j c) → Sat (suffix w j) f (Some c))
    there k u = let s = (right k u.0).0 u.1 in (s.0, s.1, λ j lt. (left j (gaps j k (omega arith) u.0)).0 (u.2 j lt))

    back : (k : ℕ) → IsTrue (holds_at w k c) × Sat (suffix w k) g (Some c) × ((j : ℕ) → j < k → IsTrue (holds_at (dual w) j c) → Sat (suffix w j) f (Some c))
        → IsTrue (is_place w k) × Sat (suffix w k) (at_tick c g') None × ((j : ℕ) → j < k → Sat (suffix w j) (Not (at_tick c (Not f'))) None)
    back k u = let p = stands (w k) c u.0 in (p, (right k p).1 (u.0, u.1), λ j lt. (left j (gaps j k (omega arith) p)).1 (u.2 j lt))

-- f async_abort b, under a clock or none
pub abort-row : (c : Option Boolean) (f : Formula) (b : Boolean) → IsRewritten f c → IsRewritten (Abort f b) c
abort-row c f b same w gaps = either-same (same w gaps) (exists-same (λ j. (
  λ u. (u.0, (same (cut w j) (cut-gaps w j gaps (stands (w j) b u.0))).0 u.1),
  λ u. (u.0, (same (cut w j) (cut-gaps w j gaps (stands (w j) b u.0))).1 u.1),
)))

-- f sync_abort b under a clock
pub sync_abort-row : (c : Boolean) (f : Formula) (b : Boolean) → IsRewritten f (Some c) → IsRewritten (SyncAbort f b) (Some c)
sync_abort-row c f b same w gaps = either-same (same w gaps) (exists-same (λ j. (
  λ u. let t = (and-holds (w j) c b).0 u.0 in (t.0, t.1, (same (cut w j) (cut-gaps w j gaps (stands (w j) c t.0))).0 u.1),
  λ u. ((and-holds (w j) c b).1 (u.0, u.1), (same (cut w j) (cut-gaps w j gaps (stands (w j) c u.0))).1 u.2),
)))
