-- The test `value` decides satisfaction of formulas without sequences.
use Rattle.std.proofs.Common.{◌≡◌, refl, sym, ◌∙◌, ap, subst, ℕ, zero, suc, ◌+◌, ◌<◌, Bool, false, List, [], ◌∷◌, map, Option, None, Some, arith, inl, inr, add_assoc}
use Rattle.std.specs.Prelude.{◌↔◌, IsTrue, ◌||◌, ◌&&◌, not, is_some}
use mathlib.Core.Path.{fun_ext}
use Rattle.std.proofs.lemmas.Bool.{false≢true, false_from_ne_true, or_cases, or_left, or_right, and_parts, and_from, not-true, not_from_false, both_ways, cases_Bool}
use Rattle.psl_tree.proofs.Choice.{stable-true, from-exists, exists-same, or-same, iff-trans}
use Rattle.psl_tree.proofs.Traces.{suffix-zero, suffix-behind, behind, followed-behind, dual-followed, cut-zero, cut-tops, cut-behind, dual_at-twice, plus-zero}
use Rattle.psl_tree.specs.Classical.{Exists}
use Rattle.psl_tree.specs.Evaluated.{HasNoSequence, front, rest, reaches, ticks_at, reaches_ticking, cuts, value}
use Rattle.psl_tree.specs.Followed.{Past, Nothing, Tops, Bottoms, past_at, dual_past, followed}
use Rattle.psl_tree.specs.Satisfaction.{Sat}
use Rattle.psl_tree.specs.Tick.{IsTick}
use Rattle.psl_tree.specs.Trace.{Trace, suffix, dual_letter, dual_at, dual, cut, is_place, holds_where, holds_at}
use Rattle.psl_tree.specs.Holds.{holds}
use Rattle.psl_tree.specs.Trees.{Boolean, Formula, Now, NowStrong, Weak, Strong, Not, And, Next, Until, Suffix, Abort, SyncAbort, Clocked}
use Rattle.psl_tree.specs.declared.letter.Letter.{Letter}
use Rattle.psl_tree.specs.declared.letter.Letter.TheVariants.{Bottom}

-- what a test of finite words tells of the traces that `p` makes of them
abbrev pub Tells : Past → (List Letter → Bool) → (Trace → Type 0) → Type 0
Tells p test F = (ys : List Letter) → IsTrue (test ys) ↔ F (followed ys p)

-- some suffix has G, and each one before it has F
abbrev pub Reached : (Trace → Type 0) → (Trace → Type 0) → Trace → Type 0
Reached F G w = Exists (λ k. IsTrue (is_place w k) × G (suffix w k) × ((j : ℕ) → j < k → F (suffix w j)))

to-suffix-zero : (F : Trace → Type 0) (w : Trace) → F w → F (suffix w 0)
to-suffix-zero F w h = subst F (sym (suffix-zero w)) h

from-suffix-zero : (F : Trace → Type 0) (w : Trace) → F (suffix w 0) → F w
from-suffix-zero F w h = subst F (suffix-zero w) h

to-behind : (F : Trace → Type 0) (x : Letter) (xs : List Letter) (p : Past) (k : ℕ) → F (suffix (followed xs p) k) → F (suffix (followed (x ∷ xs) p) (suc k))
to-behind F x xs p k h = subst F (sym (suffix-behind x xs p k)) h

from-behind : (F : Trace → Type 0) (x : Letter) (xs : List Letter) (p : Past) (k : ℕ) → F (suffix (followed (x ∷ xs) p) (suc k)) → F (suffix (followed xs p) k)
from-behind F x xs p k h = subst F (suffix-behind x xs p k) h

-- what holds of each number below a successor
below-more : (P : ℕ → Type 0) (k : ℕ) → P 0 → ((j : ℕ) → j < k → P (suc j)) → (j : ℕ) → j < suc k → P j
below-more P k first later zero _ = first
below-more P k first later (suc j) lt = later j (omega arith)

module _ (F G : Trace → Type 0) (p : Past) (left right : List Letter → Bool) (f : Tells p left F) (g : Tells p right G) where
  reaches-end : IsTrue (reaches left right p []) ↔ Reached F G (followed [] p)
  reaches-end = (there, back)
    where
      there : IsTrue (is_some (past_at p) && right []) → Reached F G (followed [] p)
      there e none = let parts = and_parts (is_some (past_at p)) (right []) e in
          none 0 (parts.0, (g []).0 parts.1, λ j lt. absurd (omega arith))

      back : Reached F G (followed [] p) → IsTrue (is_some (past_at p) && right [])
      back e = from-exists (is_some (past_at p) && right []) e (λ k u. and_from (is_some (past_at p)) (right []) u.0 ((g []).1 u.1))

  reaches-step : (x : Letter) (xs : List Letter) → IsTrue (reaches left right p xs) ↔ Reached F G (followed xs p)
      → IsTrue (reaches left right p (x ∷ xs)) ↔ Reached F G (followed (x ∷ xs) p)
  reaches-step x xs later = (there, λ e. from-exists (reaches left right p (x ∷ xs)) e at)
    where
      here : IsTrue (right (x ∷ xs)) → Reached F G (followed (x ∷ xs) p)
      here e none = none 0 (refl, to-suffix-zero G (followed (x ∷ xs) p) ((g (x ∷ xs)).0 e), λ j lt. absurd (omega arith))

      go : IsTrue (left (x ∷ xs)) → IsTrue (reaches left right p xs) → Reached F G (followed (x ∷ xs) p)
      go e l none = later.0 l (λ k u. none (suc k) (
        u.0,
        to-behind G x xs p k u.1,
        below-more (λ j. F (suffix (followed (x ∷ xs) p) j)) k (to-suffix-zero F (followed (x ∷ xs) p) ((f (x ∷ xs)).0 e)) (λ j lt. to-behind F x xs p j (u.2 j lt)),
      ))

      there : IsTrue (reaches left right p (x ∷ xs)) → Reached F G (followed (x ∷ xs) p)
      there e = elim (or_cases (right (x ∷ xs)) (left (x ∷ xs) && reaches left right p xs) e)
          [ inl h ↦ here h | inr h ↦ (let parts = and_parts (left (x ∷ xs)) (reaches left right p xs) h in go parts.0 parts.1) ]

      at : (k : ℕ) → IsTrue (is_place (followed (x ∷ xs) p) k) × G (suffix (followed (x ∷ xs) p) k) × ((j : ℕ) → j < k → F (suffix (followed (x ∷ xs) p) j)) → IsTrue (reaches left right p (x ∷ xs))
      at zero u = or_left (right (x ∷ xs)) (left (x ∷ xs) && reaches left right p xs) ((g (x ∷ xs)).1 (from-suffix-zero G (followed (x ∷ xs) p) u.1))
      at (suc k) u = or_right (right (x ∷ xs)) (left (x ∷ xs) && reaches left right p xs)
          (and_from (left (x ∷ xs)) (reaches left right p xs)
          ((f (x ∷ xs)).1 (from-suffix-zero F (followed (x ∷ xs) p) (u.2 0 (omega arith))))
          (later.1 (λ none. none k (u.0, from-behind G x xs p k u.1, λ j lt. from-behind F x xs p j (u.2 (suc j) (omega arith))))))

  pub reaches-means : (xs : List Letter) → IsTrue (reaches left right p xs) ↔ Reached F G (followed xs p)
  reaches-means [] = reaches-end
  reaches-means (x ∷ xs) = reaches-step x xs (reaches-means xs)

-- the letters up to some place are a tick, and the suffix from there has F
abbrev Ticked : Boolean → (Trace → Type 0) → Trace → Type 0
Ticked clock F w = Exists (λ j. IsTick w clock j × F (suffix w j))

module _ (clock : Boolean) (F : Trace → Type 0) (p : Past) (test : List Letter → Bool) (f : Tells p test F) where
  ticks-end : IsTrue (ticks_at clock test p []) ↔ Ticked clock F (followed [] p)
  ticks-end = (there, back)
    where
      there : IsTrue (holds_where (past_at p) clock && test []) → Ticked clock F (followed [] p)
      there e none = let parts = and_parts (holds_where (past_at p) clock) (test []) e in
          none 0 ((parts.0, λ j lt. absurd (omega arith)), (f []).0 parts.1)

      back : Ticked clock F (followed [] p) → IsTrue (holds_where (past_at p) clock && test [])
      back e = from-exists (holds_where (past_at p) clock && test []) e
          (λ k u. and_from (holds_where (past_at p) clock) (test []) u.0.0 ((f []).1 u.1))

  ticks-step : (x : Letter) (xs : List Letter) → IsTrue (ticks_at clock test p xs) ↔ Ticked clock F (followed xs p)
      → IsTrue (ticks_at clock test p (x ∷ xs)) ↔ Ticked clock F (followed (x ∷ xs) p)
  ticks-step x xs later = (there, λ e. from-exists (ticks_at clock test p (x ∷ xs)) e at)
    where
      here : IsTrue (holds x clock) → IsTrue (test (x ∷ xs)) → Ticked clock F (followed (x ∷ xs) p)
      here c e none = none 0 ((c, λ j lt. absurd (omega arith)), to-suffix-zero F (followed (x ∷ xs) p) ((f (x ∷ xs)).0 e))

      go : IsTrue (holds x (Not clock)) → IsTrue (ticks_at clock test p xs) → Ticked clock F (followed (x ∷ xs) p)
      go c l none = later.0 l (λ k u. none (suc k)
          ((u.0.0, below-more (λ i. IsTrue (holds_at (followed (x ∷ xs) p) i (Not clock))) k c u.0.1), to-behind F x xs p k u.1))

      there : IsTrue (ticks_at clock test p (x ∷ xs)) → Ticked clock F (followed (x ∷ xs) p)
      there e = elim (or_cases (holds x clock && test (x ∷ xs)) (holds x (Not clock) && ticks_at clock test p xs) e) [
        | inl h ↦ (let parts = and_parts (holds x clock) (test (x ∷ xs)) h in here parts.0 parts.1)
        | inr h ↦ (let parts = and_parts (holds x (Not clock)) (ticks_at clock test p xs) h in go parts.0 parts.1)
      ]

      at : (k : ℕ) → IsTick (followed (x ∷ xs) p) clock k × F (suffix (followed (x ∷ xs) p) k) → IsTrue (ticks_at clock test p (x ∷ xs))
      at zero u = or_left (holds x clock && test (x ∷ xs)) (holds x (Not clock) && ticks_at clock test p xs)
          (and_from (holds x clock) (test (x ∷ xs)) u.0.0 ((f (x ∷ xs)).1 (from-suffix-zero F (followed (x ∷ xs) p) u.1)))
      at (suc k) u = or_right (holds x clock && test (x ∷ xs)) (holds x (Not clock) && ticks_at clock test p xs)
          (and_from (holds x (Not clock)) (ticks_at clock test p xs) (u.0.1 0 (omega arith))
          (later.1 (λ none. none k ((u.0.0, λ i lt. u.0.1 (suc i) (omega arith)), from-behind F x xs p k u.1))))

  ticks-means : (xs : List Letter) → IsTrue (ticks_at clock test p xs) ↔ Ticked clock F (followed xs p)
  ticks-means [] = ticks-end
  ticks-means (x ∷ xs) = ticks-step x xs (ticks-means xs)

-- some suffix whose first letter holds the clock has G, and each one before it has F where the dual
-- of its first letter holds the clock
abbrev ReachedTicking : Boolean → (Trace → Type 0) → (Trace → Type 0) → Trace → Type 0
ReachedTicking clock F G w =
    Exists (λ k. IsTrue (holds_at w k clock) × G (suffix w k) × ((j : ℕ) → j < k → IsTrue (holds_at (dual w) j clock) → F (suffix w j)))

module _ (clock : Boolean) (F G : Trace → Type 0) (p : Past) (left right : List Letter → Bool) (f : Tells p left F) (g : Tells p right G) where
  reaches_ticking-end : IsTrue (reaches_ticking clock left right p []) ↔ ReachedTicking clock F G (followed [] p)
  reaches_ticking-end = (there, back)
    where
      there : IsTrue (holds_where (past_at p) clock && right []) → ReachedTicking clock F G (followed [] p)
      there e none = let parts = and_parts (holds_where (past_at p) clock) (right []) e in
          none 0 (parts.0, (g []).0 parts.1, λ j lt. absurd (omega arith))

      back : ReachedTicking clock F G (followed [] p) → IsTrue (holds_where (past_at p) clock && right [])
      back e = from-exists (holds_where (past_at p) clock && right []) e (λ k u. and_from (holds_where (past_at p) clock) (right []) u.0 ((g []).1 u.1))

  skipped : (x : Letter) (xs : List Letter) → IsTrue (not (holds (dual_letter x) clock) || left (x ∷ xs))
      → IsTrue (holds (dual_letter x) clock) → F (suffix (followed (x ∷ xs) p) 0)
  skipped x xs e c = elim (or_cases (not (holds (dual_letter x) clock)) (left (x ∷ xs)) e) [
    | inl h ↦ absurd (both_ways (holds (dual_letter x) clock) (not-true (holds (dual_letter x) clock) h) c)
    | inr h ↦ to-suffix-zero F (followed (x ∷ xs) p) ((f (x ∷ xs)).0 h)
  ]

  unskipped : (x : Letter) (xs : List Letter) → (IsTrue (holds (dual_letter x) clock) → F (suffix (followed (x ∷ xs) p) 0))
      → IsTrue (not (holds (dual_letter x) clock) || left (x ∷ xs))
  unskipped x xs h = elim (cases_Bool (holds (dual_letter x) clock)) [
    | inl c ↦ or_right (not (holds (dual_letter x) clock)) (left (x ∷ xs)) ((f (x ∷ xs)).1 (from-suffix-zero F (followed (x ∷ xs) p) (h c)))
    | inr c ↦ or_left (not (holds (dual_letter x) clock)) (left (x ∷ xs)) (not_from_false (holds (dual_letter x) clock) c)
  ]

  reaches_ticking-step : (x : Letter) (xs : List Letter) → IsTrue (reaches_ticking clock left right p xs) ↔ ReachedTicking clock F G (followed xs p)
      → IsTrue (reaches_ticking clock left right p (x ∷ xs)) ↔ ReachedTicking clock F G (followed (x ∷ xs) p)
  reaches_ticking-step x xs later = (there, λ e. from-exists (reaches_ticking clock left right p (x ∷ xs)) e at)
    where
      skips : Bool
      skips = not (holds (dual_letter x) clock) || left (x ∷ xs)

      here : IsTrue (holds x clock) → IsTrue (right (x ∷ xs)) → ReachedTicking clock F G (followed (x ∷ xs) p)
      here c e none = none 0 (c, to-suffix-zero G (followed (x ∷ xs) p) ((g (x ∷ xs)).0 e), λ j lt. absurd (omega arith))

      go : IsTrue (not (holds (dual_letter x) clock) || left (x ∷ xs)) → IsTrue (reaches_ticking clock left right p xs) → ReachedTicking clock F G (followed (x ∷ xs) p)
      go c l none = later.0 l (λ k u. none (suc k) (
        u.0,
        to-behind G x xs p k u.1,
        below-more (λ j. IsTrue (holds_at (dual (followed (x ∷ xs) p)) j clock) → F (suffix (followed (x ∷ xs) p) j)) k
            (skipped x xs c) (λ j lt h. to-behind F x xs p j (u.2 j lt h)),
      ))

      there : IsTrue (reaches_ticking clock left right p (x ∷ xs)) → ReachedTicking clock F G (followed (x ∷ xs) p)
      there e = elim (or_cases (holds x clock && right (x ∷ xs)) ((not (holds (dual_letter x) clock) || left (x ∷ xs)) && reaches_ticking clock left right p xs) e) [
        | inl h ↦ (let parts = and_parts (holds x clock) (right (x ∷ xs)) h in here parts.0 parts.1)
        | inr h ↦ (let parts = and_parts (not (holds (dual_letter x) clock) || left (x ∷ xs)) (reaches_ticking clock left right p xs) h in go parts.0 parts.1)
      ]

      at : (k : ℕ) → IsTrue (holds_at (followed (x ∷ xs) p) k clock) × G (suffix (followed (x ∷ xs) p) k)
          × ((j : ℕ) → j < k → IsTrue (holds_at (dual (followed (x ∷ xs) p)) j clock) → F (suffix (followed (x ∷ xs) p) j))
          → IsTrue (reaches_ticking clock left right p (x ∷ xs))
      at zero u = or_left (holds x clock && right (x ∷ xs)) ((not (holds (dual_letter x) clock) || left (x ∷ xs)) && reaches_ticking clock left right p xs)
          (and_from (holds x clock) (right (x ∷ xs)) u.0 ((g (x ∷ xs)).1 (from-suffix-zero G (followed (x ∷ xs) p) u.1)))
      at (suc k) u = or_right (holds x clock && right (x ∷ xs)) ((not (holds (dual_letter x) clock) || left (x ∷ xs)) && reaches_ticking clock left right p xs)
          (and_from (not (holds (dual_letter x) clock) || left (x ∷ xs)) (reaches_ticking clock left right p xs)
          (unskipped x xs (u.2 0 (omega arith)))
          (later.1 (λ none. none k (u.0, from-behind G x xs p k u.1, λ j lt h. from-behind F x xs p j (u.2 (suc j) (omega arith) h)))))

  reaches_ticking-means : (xs : List Letter) → IsTrue (reaches_ticking clock left right p xs) ↔ ReachedTicking clock F G (followed xs p)
  reaches_ticking-means [] = reaches_ticking-end
  reaches_ticking-means (x ∷ xs) = reaches_ticking-step x xs (reaches_ticking-means xs)

-- at some place where what stands there stops, the cut has F
abbrev pub WasCut : (Option Letter → Bool) → (Trace → Type 0) → Trace → Type 0
WasCut stops F w = Exists (λ j. IsTrue (stops (w j)) × F (cut w j))

module _ (stops : Option Letter → Bool) (none_stops : stops None ≡ false) (bottom_stops : stops (Some Bottom) ≡ false) (p : Past) where
  -- past the word only Top can stop, and there the cut changes nothing
  cut-end : (F : Trace → Type 0) (q : Past) (j : ℕ) → IsTrue (stops (past_at q)) → F (cut (followed [] q) j) → F (followed [] Tops)
  cut-end F Nothing j s h = absurd (both_ways (stops None) none_stops s)
  cut-end F Tops j s h = subst F (cut-tops j) h
  cut-end F Bottoms j s h = absurd (both_ways (stops (Some Bottom)) bottom_stops s)

  cuts-end : (F : Trace → Type 0) (test : List Letter → Bool) → Tells Tops test F → IsTrue (cuts stops test p []) ↔ WasCut stops F (followed [] p)
  cuts-end F test f = (there, back)
    where
      there : IsTrue (stops (past_at p) && test []) → WasCut stops F (followed [] p)
      there e none = let parts = and_parts (stops (past_at p)) (test []) e in
          none 0 (parts.0, subst F (sym (cut-zero (followed [] p))) ((f []).0 parts.1))

      back : WasCut stops F (followed [] p) → IsTrue (stops (past_at p) && test [])
      back e = from-exists (stops (past_at p) && test []) e (λ k u. and_from (stops (past_at p)) (test []) u.0 ((f []).1 (cut-end F p k u.0 u.1)))

  cuts-step : (F : Trace → Type 0) (test : List Letter → Bool) → Tells Tops test F → (x : Letter) (xs : List Letter)
      → IsTrue (cuts stops (λ before. test (x ∷ before)) p xs) ↔ WasCut stops (λ v. F (behind x v)) (followed xs p)
      → IsTrue (cuts stops test p (x ∷ xs)) ↔ WasCut stops F (followed (x ∷ xs) p)
  cuts-step F test f x xs later = (there, λ e. from-exists (cuts stops test p (x ∷ xs)) e at)
    where
      here : IsTrue (stops (Some x)) → IsTrue (test []) → WasCut stops F (followed (x ∷ xs) p)
      here s e none = none 0 (s, subst F (sym (cut-zero (followed (x ∷ xs) p))) ((f []).0 e))

      go : IsTrue (cuts stops (λ before. test (x ∷ before)) p xs) → WasCut stops F (followed (x ∷ xs) p)
      go l none = later.0 l (λ k u. none (suc k) (u.0, subst F (sym (cut-behind x xs p k)) u.1))

      there : IsTrue (cuts stops test p (x ∷ xs)) → WasCut stops F (followed (x ∷ xs) p)
      there e = elim (or_cases (stops (Some x) && test []) (cuts stops (λ before. test (x ∷ before)) p xs) e)
          [ inl h ↦ (let parts = and_parts (stops (Some x)) (test []) h in here parts.0 parts.1) | inr h ↦ go h ]

      at : (k : ℕ) → IsTrue (stops (followed (x ∷ xs) p k)) × F (cut (followed (x ∷ xs) p) k) → IsTrue (cuts stops test p (x ∷ xs))
      at zero u = or_left (stops (Some x) && test []) (cuts stops (λ before. test (x ∷ before)) p xs)
          (and_from (stops (Some x)) (test []) u.0 ((f []).1 (subst F (cut-zero (followed (x ∷ xs) p)) u.1)))
      at (suc k) u = or_right (stops (Some x) && test []) (cuts stops (λ before. test (x ∷ before)) p xs)
          (later.1 (λ none. none k (u.0, subst F (cut-behind x xs p k) u.1)))

  pub cuts-means : (F : Trace → Type 0) (test : List Letter → Bool) → Tells Tops test F → (xs : List Letter)
      → IsTrue (cuts stops test p xs) ↔ WasCut stops F (followed xs p)
  cuts-means F test f [] = cuts-end F test f
  cuts-means F test f (x ∷ xs) = cuts-step F test f x xs
      (cuts-means (λ v. F (behind x v)) (λ before. test (x ∷ before))
      (λ ys. (λ e. subst F (followed-behind x ys Tops) ((f (x ∷ ys)).0 e), λ h. (f (x ∷ ys)).1 (subst F (sym (followed-behind x ys Tops)) h))) xs)

pub front-is : (xs : List Letter) (p : Past) → followed xs p 0 ≡ front xs p
front-is [] p = refl
front-is (x ∷ xs) p = refl

-- the suffix from 1 is what stands behind the front
pub suffix-one : (xs : List Letter) (p : Past) → suffix (followed xs p) 1 ≡ followed (rest xs) p
suffix-one [] p = refl
suffix-one (x ∷ xs) p = suffix-behind x xs p 0 ∙ suffix-zero (followed xs p)

-- the same, from any place
suffix-after : (xs : List Letter) (p : Past) (j m : ℕ) → suffix (suffix (followed xs p) (suc j)) m ≡ suffix (followed xs p) (suc j + m)
suffix-after xs p j m = fun_ext (λ i. ap (followed xs p) (sym (add_assoc (suc j) m i)))

pub now-means : (o : Option Letter) (test : Boolean) → IsTrue (not (is_some o) || holds_where o test) ↔ (IsTrue (is_some o) → IsTrue (holds_where o test))
now-means None test = (λ e s. absurd (false≢true s), λ h. refl)
now-means (Some x) test = (λ e s. e, λ h. h refl)

-- two facts at places of a trace, one told of the suffix from there
at-suffix : (w : Trace) (P : Option Letter → Type 0) (j : ℕ) → P (suffix w j 0) ↔ P (w j)
at-suffix w P j = (λ h. subst (λ (k : ℕ). P (w k)) (plus-zero j) h, λ h. subst (λ (k : ℕ). P (w k)) (sym (plus-zero j)) h)

now_strong-means : (clock test : Boolean) (xs : List Letter) (p : Past)
    → IsTrue (value (NowStrong test) (Some clock) xs p) ↔ Sat (followed xs p) (NowStrong test) (Some clock)
now_strong-means clock test xs p =
    iff-trans
    (ticks-means clock (λ w. IsTrue (holds_at w 0 test)) p (λ from. holds_where (front from p) test)
    (λ ys. let same : followed ys p 0 ≡ front ys p = front-is ys p in (λ e. rw same e, λ h. rw same at h)) xs)
    (exists-same (λ j. (
      λ u. (u.0, (at-suffix (followed xs p) (λ o. IsTrue (holds_where o test)) j).0 u.1),
      λ u. (u.0, (at-suffix (followed xs p) (λ o. IsTrue (holds_where o test)) j).1 u.1),
    )))

-- what a dual shows from a place on, turned back
seen-again : (w : Trace) (j : ℕ) → dual_at (suffix (dual w) j 0) ≡ w j
seen-again w j = dual_at-twice (w (j + 0)) ∙ ap w (plus-zero j)

pub fails : (b : Bool) → (IsTrue b → ⊥) → IsTrue (not b)
fails b n = not_from_false b (false_from_ne_true b n)

-- b fails on what stands first, seen from the dual
abbrev misses : Boolean → Past → List Letter → Bool
misses test p from = not (holds_where (dual_at (front from p)) test)

abbrev Misses : Boolean → Trace → Type 0
Misses test v = IsTrue (not (holds_where (dual_at (v 0)) test))

clocked_now-means : (clock test : Boolean) (xs : List Letter) (p : Past)
    → IsTrue (value (Now test) (Some clock) xs p) ↔ Sat (followed xs p) (Now test) (Some clock)
clocked_now-means clock test xs p = (there, back)
  where
    means : IsTrue (ticks_at clock (misses test (dual_past p)) (dual_past p) (map dual_letter xs))
        ↔ Ticked clock (Misses test) (dual (followed xs p))
    means = subst (λ (w : Trace). IsTrue (ticks_at clock (misses test (dual_past p)) (dual_past p) (map dual_letter xs))
        ↔ Ticked clock (Misses test) w)
        (sym (dual-followed xs p))
        (ticks-means clock (Misses test) (dual_past p)
        (misses test (dual_past p))
        (λ ys. let same : followed ys (dual_past p) 0 ≡ front ys (dual_past p) = front-is ys (dual_past p) in (λ e. rw same e, λ h. rw same at h))
        (map dual_letter xs))

    there : IsTrue (value (Now test) (Some clock) xs p) → Sat (followed xs p) (Now test) (Some clock)
    there e j tick = stable-true (holds_at (followed xs p) j test) (λ n.
        both_ways (ticks_at clock (misses test (dual_past p)) (dual_past p) (map dual_letter xs))
        (not-true (ticks_at clock (misses test (dual_past p)) (dual_past p) (map dual_letter xs)) e)
        (means.1 (λ none. none j (
          tick,
          fails (holds_where (dual_at (suffix (dual (followed xs p)) j 0)) test) (λ h. n (subst (λ (o : Option Letter). IsTrue (holds_where o test)) (seen-again (followed xs p) j) h)),
        ))))

    back : Sat (followed xs p) (Now test) (Some clock) → IsTrue (value (Now test) (Some clock) xs p)
    back h = fails (ticks_at clock (misses test (dual_past p)) (dual_past p) (map dual_letter xs)) (λ e.
        means.0 e (λ j u. both_ways (holds_where (dual_at (suffix (dual (followed xs p)) j 0)) test)
        (not-true (holds_where (dual_at (suffix (dual (followed xs p)) j 0)) test) u.1)
        (subst (λ (o : Option Letter). IsTrue (holds_where o test)) (sym (seen-again (followed xs p) j)) (h j u.0))))

suffix-twice : (w : Trace) (j : ℕ) → suffix (suffix w j) 1 ≡ suffix w (suc j)
suffix-twice w j = fun_ext (λ i. ap w (shifts i))
  where
    shifts : (i : ℕ) → j + (1 + i) ≡ suc j + i
    shifts i = omega arith

suffix-sum : (w : Trace) (i m : ℕ) → suffix (suffix w i) m ≡ suffix w (i + m)
suffix-sum w i m = fun_ext (λ k. ap w (sym (add_assoc i m k)))

-- two ticks after one another, told of suffixes of suffixes and of suffixes of the whole
two-ticks : (clock : Boolean) (F : Trace → Type 0) (w : Trace)
    → Ticked clock (λ v. Ticked clock F (suffix v 1)) w
    ↔ Exists (λ j. IsTick w clock j × Exists (λ m. IsTick (suffix w (suc j)) clock m × F (suffix w (suc j + m))))
two-ticks clock F w = exists-same (λ j. (λ u. (u.0, (inner j).0 u.1), λ u. (u.0, (inner j).1 u.1)))
  where
    inner : (j : ℕ) → Ticked clock F (suffix (suffix w j) 1) ↔ Exists (λ m. IsTick (suffix w (suc j)) clock m × F (suffix w (suc j + m)))
    inner j = subst (λ (v : Trace). Ticked clock F v ↔ Exists (λ m. IsTick (suffix w (suc j)) clock m × F (suffix w (suc j + m)))) (sym (suffix-twice w j))
        (exists-same (λ m. (λ u. (u.0, subst F (suffix-sum w (suc j) m) u.1), λ u. (u.0, subst F (sym (suffix-sum w (suc j) m)) u.1))))

clocked_next-means : (clock : Boolean) (part : Formula) → ((ys : List Letter) (p : Past) → IsTrue (value part (Some clock) ys p) ↔ Sat (followed ys p) part (Some clock))
    → (xs : List Letter) (p : Past) → IsTrue (value (Next part) (Some clock) xs p) ↔ Sat (followed xs p) (Next part) (Some clock)
clocked_next-means clock part means xs p =
    iff-trans
    (ticks-means clock (λ v. Ticked clock (λ u. Sat u part (Some clock)) (suffix v 1)) p (λ from. ticks_at clock (λ then. value part (Some clock) then p) p (rest from))
    (λ ys. subst (λ (v : Trace). IsTrue (ticks_at clock (λ then. value part (Some clock) then p) p (rest ys)) ↔ Ticked clock (λ u. Sat u part (Some clock)) v)
    (sym (suffix-one ys p)) (ticks-means clock (λ u. Sat u part (Some clock)) p (λ then. value part (Some clock) then p) (λ zs. means zs p) (rest ys))) xs)
    (two-ticks clock (λ u. Sat u part (Some clock)) (followed xs p))

not-means : (part : Formula) (c : Option Boolean) (xs : List Letter) (p : Past)
    → IsTrue (value part c (map dual_letter xs) (dual_past p)) ↔ Sat (followed (map dual_letter xs) (dual_past p)) part c
    → IsTrue (value (Not part) c xs p) ↔ Sat (followed xs p) (Not part) c
not-means part c xs p means = (
  λ e h. both_ways (value part c (map dual_letter xs) (dual_past p)) (not-true (value part c (map dual_letter xs) (dual_past p)) e)
      (means.1 (subst (λ (w : Trace). Sat w part c) (dual-followed xs p) h)),
  λ n. fails (value part c (map dual_letter xs) (dual_past p)) (λ e. n (subst (λ (w : Trace). Sat w part c) (sym (dual-followed xs p)) (means.0 e))),
)

pub place-one : (xs : List Letter) (p : Past) → followed xs p 1 ≡ front (rest xs) p
place-one [] p = refl
place-one (x ∷ []) p = refl
place-one (x ∷ y ∷ xs) p = refl

next-means : (part : Formula) (xs : List Letter) (p : Past) → IsTrue (value part None (rest xs) p) ↔ Sat (followed (rest xs) p) part None
    → IsTrue (value (Next part) None xs p) ↔ Sat (followed xs p) (Next part) None
next-means part xs p means = (
  λ e. (let parts = and_parts (is_some (front (rest xs) p)) (value part None (rest xs) p) e in (
    subst (λ (o : Option Letter). IsTrue (is_some o)) (sym (place-one xs p)) parts.0,
    subst (λ (w : Trace). Sat w part None) (sym (suffix-one xs p)) (means.0 parts.1),
  )),
  λ h. and_from (is_some (front (rest xs) p)) (value part None (rest xs) p)
      (subst (λ (o : Option Letter). IsTrue (is_some o)) (place-one xs p) h.0)
      (means.1 (subst (λ (w : Trace). Sat w part None) (suffix-one xs p) h.1)),
)

-- a tick with a Boolean on its letter is where one test passes
tick-test : (clock test : Boolean) (o : Option Letter) → IsTrue (holds_where o clock && holds_where o test) ↔ (IsTrue (holds_where o clock) × IsTrue (holds_where o test))
tick-test clock test o = (and_parts (holds_where o clock) (holds_where o test), λ u. and_from (holds_where o clock) (holds_where o test) u.0 u.1)

sync_cuts-means : (clock test : Boolean) (F : Trace → Type 0) (p : Past) (part : List Letter → Bool) → Tells Tops part F → (xs : List Letter)
    → IsTrue (cuts (λ at. holds_where at clock && holds_where at test) part p xs)
    ↔ Exists (λ j. IsTrue (holds_at (followed xs p) j clock) × IsTrue (holds_at (followed xs p) j test) × F (cut (followed xs p) j))
sync_cuts-means clock test F p part f xs =
    iff-trans (cuts-means (λ at. holds_where at clock && holds_where at test) refl refl p F part f xs)
    (exists-same (λ j. (
      λ u. (let parts = (tick-test clock test (followed xs p j)).0 u.0 in (parts.0, parts.1, u.1)),
      λ u. ((tick-test clock test (followed xs p j)).1 (u.0, u.1), u.2),
    )))

-- the test `value` decides satisfaction
pub value-means : (f : Formula) → HasNoSequence f → (c : Option Boolean) (xs : List Letter) (p : Past) → IsTrue (value f c xs p) ↔ Sat (followed xs p) f c
value-means (NowStrong test) _ None xs p = let same : followed xs p 0 ≡ front xs p = front-is xs p in (λ e. rw same e, λ h. rw same at h)
value-means (NowStrong test) _ (Some clock) xs p = now_strong-means clock test xs p
value-means (Now test) _ None xs p = let same : followed xs p 0 ≡ front xs p = front-is xs p in
    rw same (now-means (front xs p) test)
value-means (Now test) _ (Some clock) xs p = clocked_now-means clock test xs p
value-means (Not part) s c xs p = not-means part c xs p (value-means part s c (map dual_letter xs) (dual_past p))
value-means (And left right) s c xs p = (
  λ e. (let parts = and_parts (value left c xs p) (value right c xs p) e in ((value-means left s.0 c xs p).0 parts.0, (value-means right s.1 c xs p).0 parts.1)),
  λ h. and_from (value left c xs p) (value right c xs p) ((value-means left s.0 c xs p).1 h.0) ((value-means right s.1 c xs p).1 h.1),
)
value-means (Next part) s None xs p = next-means part xs p (value-means part s None (rest xs) p)
value-means (Next part) s (Some clock) xs p = clocked_next-means clock part (λ ys q. value-means part s (Some clock) ys q) xs p
value-means (Until left right) s None xs p =
    reaches-means (λ w. Sat w left None) (λ w. Sat w right None) p (λ from. value left None from p) (λ from. value right None from p)
    (λ ys. value-means left s.0 None ys p) (λ ys. value-means right s.1 None ys p) xs
value-means (Until left right) s (Some clock) xs p =
    reaches_ticking-means clock (λ w. Sat w left (Some clock)) (λ w. Sat w right (Some clock)) p (λ from. value left (Some clock) from p) (λ from. value right (Some clock) from p)
    (λ ys. value-means left s.0 (Some clock) ys p) (λ ys. value-means right s.1 (Some clock) ys p) xs
value-means (Abort part test) s c xs p =
    or-same (value part c xs p) (cuts (λ at. holds_where at test) (λ before. value part c before Tops) p xs) (value-means part s c xs p)
    (cuts-means (λ at. holds_where at test) refl refl p (λ w. Sat w part c) (λ before. value part c before Tops) (λ ys. value-means part s c ys Tops) xs)
value-means (SyncAbort part test) s None xs p =
    or-same (value part None xs p) (cuts (λ at. holds_where at test) (λ before. value part None before Tops) p xs) (value-means part s None xs p)
    (cuts-means (λ at. holds_where at test) refl refl p (λ w. Sat w part None) (λ before. value part None before Tops) (λ ys. value-means part s None ys Tops) xs)
value-means (SyncAbort part test) s (Some clock) xs p =
    or-same (value part (Some clock) xs p) (cuts (λ at. holds_where at clock && holds_where at test) (λ before. value part (Some clock) before Tops) p xs) (value-means part s (Some clock) xs p)
    (sync_cuts-means clock test (λ w. Sat w part (Some clock)) p (λ before. value part (Some clock) before Tops) (λ ys. value-means part s (Some clock) ys Tops) xs)
value-means (Clocked part inner) s _ xs p = value-means part s (Some inner) xs p
value-means (Weak _) s _ _ _ = absurd s
value-means (Strong _) s _ _ _ = absurd s
value-means (Suffix _ _) s _ _ _ = absurd s
