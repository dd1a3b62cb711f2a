-- The score of f async_abort b.
use Rattle.std.proofs.Common.{◌≡◌, inl, inr, refl, sym, ap, ◌∙◌, subst, ℕ, ◌+◌, ◌-◌, ◌≤◌, ◌<◌, Bool as Truth, ◌++◌, length, map, arith}
use Rattle.std.specs.Prelude.{◌↔◌, IsTrue, ◌&&◌, ◌||◌, if◌then◌else◌, None}
use Rattle.std.proofs.lemmas.Bool.{cases_Bool, or_cases, or_right}
use Rattle.std.proofs.lemmas.List.{length-append, length-map}
use Rattle.psl_tree.specs.Clockless.{IsPlain}
use Rattle.psl_tree.specs.Satisfaction.{Sat}
use Rattle.psl_tree.specs.Holds.{holds}
use Rattle.psl_tree.specs.Trees.{Boolean, Formula, Abort}
use Rattle.alternating_theory.specs.Courses.{Course, read_from, stopped}
use Rattle.alternating_theory.proofs.CourseAborts.{abort-same}
use Rattle.alternating_theory.proofs.Ends.{IsCourse, stopped-course}
use Rattle.alternating_theory.specs.Construction.{Part, abort_part, cut_obligation}
use Rattle.alternating_theory.specs.Obligations.{Obligation, obligation_at, numbered}
use Rattle.alternating_theory.specs.Positive.{met}
use Rattle.alternating_theory.proofs.MetLaws.{met-same, met-renumbered}
use Rattle.alternating_theory.proofs.Parts.{IsPartOf}
use Rattle.alternating_theory.proofs.Values.{in-front, in-back, in-map}
use Rattle.alternating_theory.proofs.Copies.{absorbed, said, later, copies-score, copies-value}
use Rattle.alternating_theory.proofs.Scores.{Scored}
use Rattle.alternating_theory.proofs.Splits.{split-score, split-left, split-right, apart, apart-value}
use Rattle.alternating_theory.proofs.Starts.{met_at, ScoredPart, IsScored, IsStart, start-is, renamed, renamed-value}

module _ (offset : ℕ) (b : Boolean) (a : Part) (f : Formula) (is : IsPartOf offset a f) (plain : IsPlain f) (c : Course) (n top bottom : ℕ) (course : IsCourse c n top bottom)
    (u : ScoredPart c n top bottom offset a f) (t : ScoredPart (stopped (λ p. holds (c.letter p) b) top c) n top bottom offset a f) where
  abbrev size : ℕ
  size = length a.rest

  abbrev copy : Obligation → Obligation
  copy = λ obligation. cut_obligation (λ number. number + length a.rest) b obligation

  abbrev look : ℕ → Obligation
  look = numbered offset a.rest

  abbrev look' : ℕ → Obligation
  look' = numbered offset (a.rest ++ map copy a.rest)

  abbrev mid : ℕ
  mid = offset + length a.rest

  abbrev high : ℕ
  high = offset + length (a.rest ++ map copy a.rest)

  last : high ≡ mid + size
  last = omega (arith, length-append a.rest (map copy a.rest), length-map a.rest copy)

  begins : offset ≤ mid
  begins = omega arith

  follows : mid ≤ high
  follows = omega (arith, last)

  same : (q : ℕ) → offset ≤ q → q < mid → look' q ≡ look q
  same q l h = in-front offset a.rest (map copy a.rest) q l h

  copied : (q : ℕ) → offset ≤ q → q < mid → look' (q + size) ≡ copy (look q)
  copied q l h =
      in-back offset a.rest (map copy a.rest) (q + length a.rest) (omega arith)
      ∙ in-map copy mid a.rest (q + length a.rest) (omega arith) (omega arith)
      ∙ ap (λ n. copy (obligation_at a.rest n)) (moved q)
    where
      moved : (q : ℕ) → q + length a.rest - (offset + length a.rest) ≡ q - offset
      moved q = omega arith

  left : Scored c n top bottom offset mid look'
  left = renamed c n top bottom offset mid mid look look' refl same u.score

  right : Scored c n top bottom mid high look'
  right = copies-score c n top bottom course b offset mid high size refl last look look' copied t.score

  score : Scored c n top bottom offset high look'
  score = split-score c n top bottom offset mid high look' left begins follows (apart c n top bottom offset mid high look' left.value begins right)

  score-left : (p q : ℕ) → q < mid → score.value p q ≡ u.score.value p q
  unfolding score left
  score-left p q h =
      split-left c n top bottom offset mid high look' left begins follows (apart c n top bottom offset mid high look' left.value begins right) p q h
      ∙ renamed-value c n top bottom offset mid mid look look' refl same u.score p q

  abbrev stop : ℕ → Truth
  stop p = holds (c.letter p) b

  abbrev copy_value : ℕ → ℕ → Truth
  copy_value p q = said c n top bottom course b offset mid high size refl last look look' copied t.score p q

  score-right : (p q : ℕ) → offset ≤ q → score.value p (q + size) ≡ copy_value p q
  unfolding score right
  score-right p q h =
      split-right c n top bottom offset mid high look' left begins follows (apart c n top bottom offset mid high look' left.value begins right) p (q + size) (omega arith)
      ∙ apart-value c n top bottom offset mid high look' left.value begins right p (q + size)
      ∙ copies-value c n top bottom course b offset mid high size refl last look look' copied t.score p q

  -- the start, and its copy

  abbrev halted : Course
  halted = stopped (λ p. holds (c.letter p) b) top c

  abbrev whole : ℕ → Truth
  whole p = met_at c a.start u.score.value p

  abbrev cut_value : ℕ → Truth
  cut_value p = met_at halted a.start t.score.value p

  abbrev copied_start : ℕ → Truth
  copied_start p = (stop p && a.start.top) || cut_value p

  s : IsStart n top bottom a.start cut_value
  s = start-is halted n top bottom (stopped-course c n top bottom b course) offset a f is plain cut_value t.starts

  copied-means : (p : ℕ) → p < n → IsTrue (copied_start p) ↔ Sat (read_from halted (if stop p then top else p)) f None
  copied-means p l = elim (cases_Bool (stop p)) [
    | inl e ↦ subst (λ (k : Truth). IsTrue ((k && a.start.top) || cut_value p) ↔ Sat (read_from halted (if k then top else p)) f None) (sym e)
        (subst (λ (k : Truth). IsTrue k ↔ Sat (read_from halted top) f None) (sym (absorbed a.start.top (cut_value p) (s.up p l)))
        (subst (λ (k : Truth). IsTrue k ↔ Sat (read_from halted top) f None) s.at_top (t.starts top course.top_below)))
    | inr e ↦ subst (λ (k : Truth). IsTrue ((k && a.start.top) || cut_value p) ↔ Sat (read_from halted (if k then top else p)) f None) (sym e) (t.starts p l)
  ]

  abort-means : (p : ℕ) → p < n → IsTrue (copied_start p) ↔ Sat (read_from c p) (Abort f b) None
  abort-means p l = abort-same c b top course.top_letter course.top_next f plain p (copied_start p) (copied-means p l)

  start-left : (p : ℕ) → met a.start.delta (c.letter p) (λ q. score.value (c.next p) q) ≡ whole p
  start-left p = met-same offset mid a.start.delta is.right.start.within (c.letter p) (λ q. score.value (c.next p) q) (λ q. u.score.value (c.next p) q) (λ q x y. score-left (c.next p) q y)

  start-right : (p : ℕ) → met (copy a.start).delta (c.letter p) (λ q. score.value (c.next p) q) ≡ copied_start p
  start-right p = ap (λ (k : Truth). (stop p && a.start.top) || k)
      (met-renumbered (λ number. number + length a.rest) a.start.delta (c.letter p) (λ q. score.value (c.next p) q)
      ∙ met-same offset mid a.start.delta is.right.start.within (c.letter p) (λ q. score.value (c.next p) (q + size)) (λ q. copy_value (c.next p) q) (λ q x y. score-right (c.next p) q x)
      ∙ later c n top bottom course b offset mid high size refl last look look' copied t.score p a.start.delta is.right.start.within)

  starts : (p : ℕ) → p < n → IsTrue (met_at c (abort_part b a).start score.value p) ↔ Sat (read_from c p) (Abort f b) None
  starts p l = (there, back)
    where
      there : IsTrue (met_at c (abort_part b a).start score.value p) → Sat (read_from c p) (Abort f b) None
      there v = elim (or_cases (met a.start.delta (c.letter p) (λ q. score.value (c.next p) q)) (met (copy a.start).delta (c.letter p) (λ q. score.value (c.next p) q)) v)
          as (λ _. Sat (read_from c p) (Abort f b) None) [
            | inl x ↦ λ no _. no ((u.starts p l).0 (sym (start-left p) ∙ x))
            | inr x ↦ (abort-means p l).0 (sym (start-right p) ∙ x)
          ]

      back : Sat (read_from c p) (Abort f b) None → IsTrue (met_at c (abort_part b a).start score.value p)
      back w = or_right (met a.start.delta (c.letter p) (λ q. score.value (c.next p) q)) (met (copy a.start).delta (c.letter p) (λ q. score.value (c.next p) q))
          (start-right p ∙ (abort-means p l).1 w)

  pub abort-scored : ScoredPart c n top bottom offset (abort_part b a) (Abort f b)
  abort-scored = record { score = score; starts = starts }

pub abort-score : (offset : ℕ) (b : Boolean) (a : Part) (f : Formula) → IsPartOf offset a f → IsPlain f → IsScored offset a f → IsScored offset (abort_part b a) (Abort f b)
abort-score offset b a f is plain scored c n top bottom course =
    abort-scored offset b a f is plain c n top bottom course (scored c n top bottom course) (scored (stopped (λ p. holds (c.letter p) b) top c) n top bottom (stopped-course c n top bottom b course))
