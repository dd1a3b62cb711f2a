-- f async_abort b on a course: it is satisfied where f is on the course that goes on at Top for ever
-- from the first place on which b holds.
use Rattle.std.proofs.Common.{◌≡◌, ◌⊎◌, inl, inr, refl, sym, ap, ◌∙◌, subst, ℕ, zero, suc, ◌≤◌, ◌<◌, Bool as Truth, true, false, None, Some, arith}
use Rattle.std.specs.Prelude.{◌↔◌, IsTrue, nat_lt, if◌then◌else◌}
use Rattle.std.proofs.lemmas.Bool.{false_from_ne_true, cases_Bool, cases_lt, lt-ltb, le-ltb}
use mathlib.Core.Path.{fun_ext}
use Rattle.psl_tree.specs.Classical.{Exists}
use Rattle.psl_tree.specs.Clockless.{IsPlain}
use Rattle.psl_tree.specs.Satisfaction.{Sat}
use Rattle.psl_tree.specs.Trace.{Trace, cut, holds_at}
use Rattle.psl_tree.proofs.Choice.{stable-true}
use Rattle.psl_tree.specs.Holds.{holds}
use Rattle.psl_tree.specs.Trees.{Boolean, Formula, Abort}
use Rattle.psl_tree.specs.declared.letter.Letter.{Letter}
use Rattle.psl_tree.specs.declared.letter.Letter.TheVariants.{Top}
use Rattle.alternating_theory.specs.Courses.{Course, walk, read_from, stopped}
use Rattle.alternating_theory.proofs.Raised.{Below, LessLetter, less-same, less-top, below-letters, cut-letter, cut-letters, raised}
use Rattle.alternating_theory.proofs.Walks.{walk-stays}

module _ (c : Course) (stops : ℕ → Truth) (sink : ℕ) (rests : c.next sink ≡ sink) where
  abbrev pub halted : Course
  halted = stopped stops sink c

  -- the place where the stopped course stands in the place's stead
  abbrev pub from : ℕ → ℕ
  from p = if stops p then sink else p

  from-quiet : (p : ℕ) → stops p ≡ false → from p ≡ p
  from-quiet p e = ap (λ (t : Truth). if t then sink else p) e

  from-stop : (p : ℕ) → stops p ≡ true → from p ≡ sink
  from-stop p e = ap (λ (t : Truth). if t then sink else p) e

  sink-next : halted.next sink ≡ sink
  sink-next = at (stops (c.next sink))
    where
      at : (t : Truth) → (if t then sink else c.next sink) ≡ sink
      at true = refl
      at false = rests

  abbrev pub Quiet : ℕ → ℕ → Type 0
  Quiet k p = (i : ℕ) → i ≤ k → stops (walk c.next i p) ≡ false

  -- before a stop the two walks are one
  pub before : (k p : ℕ) → Quiet k p → walk halted.next k (from p) ≡ walk c.next k p
  before zero p q = from-quiet p (q 0 (omega arith))
  before (suc k) p q =
      ap (λ n. walk halted.next (suc k) n) (from-quiet p (q 0 (omega arith))) ∙ before k (c.next p) (λ i h. q (suc i) (omega arith))

  -- behind a stop the stopped course is at the sink
  pub behind-stop : (k p j : ℕ) → j ≤ k → stops (walk c.next j p) ≡ true → walk halted.next k (from p) ≡ sink
  behind-stop k p zero h e = ap (λ n. walk halted.next k n) (from-stop p e) ∙ walk-stays halted.next sink sink-next k
  behind-stop zero p (suc j) h e = absurd (omega arith)
  behind-stop (suc k) p (suc j) h e = at (stops p) refl (behind-stop k (c.next p) j (omega arith) e)
    where
      at : (t : Truth) → stops p ≡ t → walk halted.next k (from (c.next p)) ≡ sink → walk halted.next (suc k) (from p) ≡ sink
      at true s r = ap (λ n. walk halted.next (suc k) n) (from-stop p s) ∙ walk-stays halted.next sink sink-next (suc k)
      at false s r = ap (λ n. walk halted.next (suc k) n) (from-quiet p s) ∙ r

  pub either : (k p : ℕ) → Quiet k p ⊎ ((j : ℕ) × (j ≤ k) × (stops (walk c.next j p) ≡ true))
  either zero p = elim (cases_Bool (stops p)) as (λ _. Quiet zero p ⊎ ((j : ℕ) × (j ≤ zero) × (stops (walk c.next j p) ≡ true))) [
    | inl e ↦ inr (0, omega arith, e)
    | inr e ↦ inl (λ i h. only i h e)
  ]
    where
      only : (i : ℕ) → i ≤ 0 → stops p ≡ false → stops (walk c.next i p) ≡ false
      only zero h e = e
      only (suc i) h e = absurd (omega arith)
  either (suc k) p = elim (cases_Bool (stops p)) as (λ _. Quiet (suc k) p ⊎ ((j : ℕ) × (j ≤ suc k) × (stops (walk c.next j p) ≡ true))) [
    | inl e ↦ inr (0, omega arith, e)
    | inr e ↦ later e (either k (c.next p))
  ]
    where
      more : stops p ≡ false → Quiet k (c.next p) → (i : ℕ) → i ≤ suc k → stops (walk c.next i p) ≡ false
      more e q zero h = e
      more e q (suc i) h = q i (omega arith)

      later : stops p ≡ false → (Quiet k (c.next p) ⊎ ((j : ℕ) × (j ≤ k) × (stops (walk c.next j (c.next p)) ≡ true)))
          → Quiet (suc k) p ⊎ ((j : ℕ) × (j ≤ suc k) × (stops (walk c.next j p) ≡ true))
      later e (inl q) = inl (more e q)
      later e (inr s) = inr (suc s.0, omega (arith, s.1), s.2)

module _ (c : Course) (b : Boolean) (sink : ℕ) (top : c.letter sink ≡ Top) (rests : c.next sink ≡ sink) (f : Formula) (plain : IsPlain f) (p : ℕ) where
  abbrev stop : ℕ → Truth
  stop q = holds (c.letter q) b

  abbrev on : ℕ → Letter
  on k = c.letter (walk c.next k p)

  abbrev halt : ℕ → Letter
  halt k = c.letter (walk (halted c stop sink rests).next k (from c stop sink rests p))

  abbrev whole : Trace
  whole = read_from c p

  abbrev part : Trace
  part = read_from (halted c stop sink rests) (from c stop sink rests p)

  -- at each place the stopped course has the letter of the course, or Top
  halt-same : (k : ℕ) → Quiet c stop sink rests k p → on k ≡ halt k
  halt-same k q = ap c.letter (sym (before c stop sink rests k p q))

  halt-top : (k j : ℕ) → j ≤ k → stop (walk c.next j p) ≡ true → halt k ≡ Top
  halt-top k j h e = ap c.letter (behind-stop c stop sink rests k p j h e) ∙ top

  above : Below (read_from c p) part
  above = below-letters on halt (λ k. elim (either c stop sink rests k p) as (λ _. LessLetter (on k) (halt k)) [
    | inl q ↦ less-same (on k) (halt k) (halt-same k q)
    | inr s ↦ less-top (on k) (halt k) (halt-top k s.0 s.1 s.2)
  ])

  -- cut at a stop the trace lies below the stopped course
  cut-above : (j : ℕ) → stop (walk c.next j p) ≡ true → Below (cut (read_from c p) j) part
  cut-above j e = subst (λ (v : Trace). Below v part) (sym (cut-letters on j)) (below-letters (cut-letter on j) halt (λ k. at k (cases_lt k j)))
    where
      at : (k : ℕ) → ((k < j) ⊎ (j ≤ k)) → LessLetter (cut-letter on j k) (halt k)
      at k (inr h) = less-top (cut-letter on j k) (halt k) (halt-top k j h e)
      at k (inl h) = elim (either c stop sink rests k p) as (λ _. LessLetter (cut-letter on j k) (halt k)) [
        | inl q ↦ less-same (cut-letter on j k) (halt k) (rw (lt-ltb k j h) (halt-same k q))
        | inr s ↦ less-top (cut-letter on j k) (halt k) (halt-top k s.0 s.1 s.2)
      ]

  -- at the first stop they are one
  first-cut : (j : ℕ) → ((i : ℕ) → i < j → stop (walk c.next i p) ≡ false) → stop (walk c.next j p) ≡ true → part ≡ cut (read_from c p) j
  first-cut j q e = fun_ext (λ k. ap Some (at k (cases_lt k j))) ∙ sym (cut-letters on j)
    where
      at : (k : ℕ) → ((k < j) ⊎ (j ≤ k)) → halt k ≡ (if nat_lt k j then on k else Top)
      at k (inl h) = rw (lt-ltb k j h) (sym (halt-same k (λ i l. q i (omega arith))))
      at k (inr h) = rw (le-ltb k j h) (halt-top k j h e)

  abbrev Cuts : Type 0
  Cuts = Exists (λ j. IsTrue (holds_at (read_from c p) j b) × Sat (cut (read_from c p) j) f None)

  -- where no cut satisfies f nothing stops the course
  quiet : (Cuts → ⊥) → Sat part f None → (j i : ℕ) → i < j → stop (walk c.next i p) ≡ false
  quiet n h zero i l = absurd (omega arith)
  quiet n h (suc j) i l = false_from_ne_true (stop (walk c.next i p)) (λ e. n (λ none. none i (
    e,
    subst (λ (v : Trace). Sat v f None) (first-cut i (λ m u. quiet n h j m (omega arith)) e) h,
  )))

  quiet-same : ((i : ℕ) → stop (walk c.next i p) ≡ false) → part ≡ read_from c p
  quiet-same q = fun_ext (λ k. ap Some (sym (halt-same k (λ i l. q i))))

  pub abort-same : (t : Truth) → IsTrue t ↔ Sat part f None → IsTrue t ↔ Sat (read_from c p) (Abort f b) None
  abort-same t s = (
    λ h a n. a (subst (λ (v : Trace). Sat v f None) (quiet-same (λ i. quiet n (s.0 h) (suc i) i (omega arith))) (s.0 h)),
    λ e. stable-true t (λ n. e
        (λ h. n (s.1 (raised f plain (read_from c p) part above h)))
        (λ u. u (λ j k. n (s.1 (raised f plain (cut (read_from c p) j) part (cut-above j k.0) k.1))))),
  )
