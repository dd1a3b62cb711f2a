-- The table of each form of formula, from those of its parts.
use Rattle.std.proofs.Common.{◌≡◌, refl, sym, ap, ◌∙◌, subst, ℕ, ◌+◌, ◌-◌, ◌<◌, Bool as Truth, true, false, List, length, None, arith}
use Rattle.std.specs.Prelude.{◌↔◌, ◌&&◌, not, if◌then◌else◌, slice_index, IsTrue, Result, IfOk}
use Rattle.std.proofs.lemmas.Result.{IfOk-weaker}
use Rattle.std.proofs.lemmas.Bool.{both_ways, and_parts}
use Rattle.psl_tree.specs.Clockless.{IsPlain}
use Rattle.psl_tree.specs.Satisfaction.{Sat}
use Rattle.psl_tree.specs.Trace.{Trace, trace_of}
use Rattle.psl_tree.proofs.Choice.{exists-map}
use Rattle.psl_tree.specs.Holds.{holds}
use Rattle.psl_tree.specs.Trees.{Boolean, Sequence, Formula, Now, NowStrong, Not, And, Next, Until, Suffix, Abort}
use Rattle.psl_tree.specs.declared.letter.Word.{Word}
use Rattle.alternating_theory.specs.Courses.{Course, walk, read_from, stopped, places, next_place}
use Rattle.alternating_theory.proofs.CourseAborts.{abort-same}
use Rattle.alternating_theory.proofs.Reaching.{reaches-until}
use Rattle.alternating_theory.proofs.Walks.{suffix-next, walk-below}
use Rattle.alternating_theory.proofs.Words.{word_read}
use Rattle.lasso_tables.specs.Seen.{seen_at, course_by, IsWhole, sink_of}
use Rattle.lasso_tables.specs.Tables.{value_at, Has, Leads, Tells}
use Rattle.lasso_judge.specs.Untils.{IsReached}
use Rattle.lasso_judge.proofs.Followed.{opposite-read, halted-read, sink-rests, sink-top, from-below, own-read}

both-true : (a b : Truth) → IsTrue a → IsTrue b → IsTrue (a && b)
both-true true b h k = k
both-true false b h k = absurd (both_ways false refl h)

pub turned : (t : Truth) (A : Type 0) → (IsTrue t ↔ A) → IsTrue (not t) ↔ (A → ⊥)
turned true A s = (λ h a. both_ways false refl h, λ n. absurd (n (s.0 refl)))
turned false A s = (λ h a. both_ways false refl (s.1 a), λ n. refl)

-- the same of an equal formula and an equal table
pub told : (c : Course) (n : ℕ) (f g : Formula) (t u : List Truth) → f ≡ g → u ≡ t → Tells c n f t → Tells c n g u
told c n f g t u e i s = subst (λ (h : Formula). Tells c n h u) e (subst (λ (v : List Truth). Tells c n f v) (sym i) s)

pub sink-is : (word : Word) (next : List ℕ) (sink : ℕ) → IsWhole word next → (flipped : Truth) → sink ≡ (if flipped then length next - 1 else length next - 2) → sink ≡ sink_of word flipped
sink-is word next sink whole true e = omega (arith, whole.same_length, e)
sink-is word next sink whole false e = omega (arith, whole.same_length, e)

module _ (word : Word) (flipped : Truth) (next : List ℕ) where
  abbrev course : Course
  course = course_by word flipped next

  abbrev count : ℕ
  count = length next

  pub now-tells : (test : Boolean) (values : List Truth) → Has count (λ p. holds (seen_at word flipped p) test) values → Tells course count (Now test) values
  now-tells test values s = record {
    same_length = s.same_length;
    exact = λ p l. (λ h k. sym (s.each p l) ∙ h, λ h. s.each p l ∙ h refl);
  }

  pub now_strong-tells : (test : Boolean) (values : List Truth) → Has count (λ p. holds (seen_at word flipped p) test) values → Tells course count (NowStrong test) values
  now_strong-tells test values s = record {
    same_length = s.same_length;
    exact = λ p l. (λ h. sym (s.each p l) ∙ h, λ h. s.each p l ∙ h);
  }

  pub not-tells : (f : Formula) (part values : List Truth) → Tells (course_by word (not flipped) next) count f part
      → Has (length part) (λ p. not (value_at part p)) values → Tells course count (Not f) values
  not-tells f part values t s = record {
    same_length = s.same_length ∙ t.same_length;
    exact = λ p l. at p l (turned (value_at part p) (Sat (read_from (course_by word (not flipped) next) p) f None) (t.exact p l)) (s.each p (omega (arith, t.same_length)));
  }
    where
      at : (p : ℕ) → p < count → IsTrue (not (value_at part p)) ↔ (Sat (read_from (course_by word (not flipped) next) p) f None → ⊥)
          → value_at values p ≡ not (value_at part p) → IsTrue (value_at values p) ↔ Sat (read_from course p) (Not f) None
      at p l u e = (
        λ h k. u.0 (sym e ∙ h) (subst (λ (v : Trace). Sat v f None) (sym (opposite-read word flipped next p)) k),
        λ h. e ∙ u.1 (λ k. h (subst (λ (v : Trace). Sat v f None) (opposite-read word flipped next p) k)),
      )

  pub and-tells : (f g : Formula) (left right values : List Truth) → Tells course count f left → Tells course count g right
      → Has (length left) (λ p. value_at left p && value_at right p) values → Tells course count (And f g) values
  and-tells f g left right values t u s = record {
    same_length = s.same_length ∙ t.same_length;
    exact = λ p l. (
      λ h. let parts = and_parts (value_at left p) (value_at right p) (sym (s.each p (omega (arith, t.same_length))) ∙ h) in
          ((t.exact p l).0 parts.0, (u.exact p l).0 parts.1),
      λ h. s.each p (omega (arith, t.same_length)) ∙ both-true (value_at left p) (value_at right p) ((t.exact p l).1 h.0) ((u.exact p l).1 h.1),
    );
  }

  pub next-tells : (f : Formula) (part values : List Truth) → IsWhole word next → Tells course count f part
      → Has count (λ p. value_at part (slice_index next p)) values → Tells course count (Next f) values
  next-tells f part values whole t s = record {
    same_length = s.same_length;
    exact = λ p l. (
      λ h. (refl, subst (λ (v : Trace). Sat v f None) (sym (suffix-next course p)) ((t.exact (slice_index next p) (whole.below p l)).0 (sym (s.each p l) ∙ h))),
      λ h. s.each p l ∙ (t.exact (slice_index next p) (whole.below p l)).1 (subst (λ (v : Trace). Sat v f None) (suffix-next course p) h.1),
    );
  }

  pub until-tells : (f g : Formula) (left right values : List Truth) → IsWhole word next → Tells course count f left → Tells course count g right
      → IsReached left right next values → Tells course count (Until f g) values
  until-tells f g left right values whole t u s = record {
    same_length = s.same_length;
    exact = λ p l. (
      λ h. (reaches-until course f g p).0 (exists-map (λ k w. ((u.exact (at k p) (within k p l)).0 w.0, λ j m. (t.exact (at j p) (within j p l)).0 (w.1 j m))) (s.sound p l h)),
      λ h. s.whole p l (exists-map (λ k w. ((u.exact (at k p) (within k p l)).1 w.0, λ j m. (t.exact (at j p) (within j p l)).1 (w.1 j m))) ((reaches-until course f g p).1 h)),
    );
  }
    where
      at : ℕ → ℕ → ℕ
      at k p = walk (λ q. slice_index next q) k p

      within : (k p : ℕ) → p < count → walk (λ q. slice_index next q) k p < count
      within k p l = walk-below (λ q. slice_index next q) count whole.below k p l

  pub abort-tells : (f : Formula) → IsPlain f → (test : Boolean) (sink : ℕ) (stops part values : List Truth) (halted : List ℕ)
      → IsWhole word next → Has count (λ p. holds (seen_at word flipped p) test) stops
      → Leads count (λ p. if value_at stops (slice_index next p) then sink else slice_index next p) halted
      → sink ≡ sink_of word flipped
      → Tells (course_by word flipped halted) (length halted) f part
      → Has (length part) (λ p. value_at part (if value_at stops p then sink else p)) values → Tells course count (Abort f test) values
  abort-tells f plain test sink stops part values halted whole held leads is t s = record {
    same_length = s.same_length ∙ long;
    exact = λ p l. abort-same course test sink (sink-top word flipped test next halted stops sink whole held leads is)
        (sink-rests word flipped test next halted stops sink whole held leads is) f plain p (value_at values p) (at p l);
  }
    where
      long : length part ≡ count
      long = t.same_length ∙ leads.same_length

      from : ℕ → ℕ
      from p = if holds (seen_at word flipped p) test then sink else p

      value : (p : ℕ) → p < count → value_at values p ≡ value_at part (if holds (seen_at word flipped p) test then sink else p)
      value p l = s.each p (omega (arith, long)) ∙ ap (λ (b : Truth). value_at part (if b then sink else p)) (held.each p l)

      inside : (p : ℕ) → p < count → (if holds (seen_at word flipped p) test then sink else p) < count
      inside p l = from-below word flipped test next halted stops sink whole held leads is p l

      at : (p : ℕ) → p < count → IsTrue (value_at values p) ↔ Sat (read_from (stopped (λ q. holds (seen_at word flipped q) test) sink course) (if holds (seen_at word flipped p) test then sink else p)) f None
      at p l =
          let q : ℕ = if holds (seen_at word flipped p) test then sink else p in
          let b = inside p l in
          let e = t.exact q (omega (arith, b, leads.same_length)) in
          let r = halted-read word flipped test next halted stops sink whole held leads is q b in (
            λ h. subst (λ (v : Trace). Sat v f None) r (e.0 (sym (value p l) ∙ h)),
            λ h. value p l ∙ e.1 (subst (λ (v : Trace). Sat v f None) (sym r) h),
          )

-- the whole word
pub word-tells : (word : Word) → 0 < length word.looped → (f : Formula) (next : List ℕ) (values : List Truth) (answer : Truth)
    → Leads (places word + 2) (λ p. next_place word p) next → Tells (course_by word false next) (length next) f values → answer ≡ value_at values 0
    → IsTrue answer ↔ Sat (trace_of word) f None
word-tells word some f next values answer leads t e =
    let first = t.exact 0 (omega (arith, leads.same_length)) in
    let r = own-read word some next leads ∙ sym (word_read word some) in (
      λ h. subst (λ (v : Trace). Sat v f None) r (first.0 (sym e ∙ h)),
      λ h. e ∙ first.1 (subst (λ (v : Trace). Sat v f None) (sym r) h),
    )

-- the table of r |-> f, if there is one
pub suffix-ok : {V E : Type 0} (result : Result V E) (items : V → List Truth) (c : Course) (n : ℕ) (r : Sequence) (f g : Formula) (part : List Truth) → g ≡ Suffix r f → Tells c n f part
    → IfOk result (λ v. (h : Formula) → Tells c n h part → Tells c n (Suffix r h) (items v)) → IfOk result (λ v. Tells c n g (items v))
suffix-ok result items c n r f g part e t h = IfOk-weaker result (λ v. (h : Formula) → Tells c n h part → Tells c n (Suffix r h) (items v)) (λ v. Tells c n g (items v))
    (λ v k. subst (λ (x : Formula). Tells c n x (items v)) (sym e) (k f t)) h
