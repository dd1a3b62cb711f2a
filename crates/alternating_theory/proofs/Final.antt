-- The automaton of a formula accepts along a course exactly where the course's trace satisfies it.
use Rattle.std.proofs.Common.{◌≡◌, sym, ap, ◌∙◌, subst, ℕ, ◌+◌, ◌-◌, ◌≤◌, ◌<◌, Bool as Truth, List, [], ◌∷◌, ◌++◌, length, arith}
use Rattle.std.specs.Prelude.{◌↔◌, IsTrue, None}
use Rattle.std.proofs.lemmas.List.{length-append}
use Rattle.psl_tree.specs.Satisfaction.{Sat}
use Rattle.psl_tree.specs.Trace.{Trace, trace_of}
use Rattle.psl_tree.proofs.Choice.{iff-trans}
use Rattle.psl_tree.specs.Trees.{Formula}
use Rattle.psl_tree.specs.declared.letter.Word.{Word}
use Rattle.alternating_theory.specs.Courses.{Course, read_from, places, letter_at, next_place, course_of}
use Rattle.alternating_theory.proofs.Ends.{IsCourse, word-course, word-next}
use Rattle.alternating_theory.proofs.Words.{word_read}
use Rattle.alternating_theory.specs.Construction.{Part, part_of, HasNoClock}
use Rattle.alternating_theory.specs.Obligations.{Obligation, obligation_at, numbered}
use Rattle.alternating_theory.specs.Positive.{OwesWithin}
use Rattle.alternating_theory.specs.Built.{unmerged, built}
use Rattle.alternating_theory.specs.Merged.{class_in, classes_upto}
use Rattle.alternating_theory.proofs.Built.{all-below, unmerged-names}
use Rattle.alternating_theory.proofs.Means.{part-means}
use Rattle.alternating_theory.proofs.MetLaws.{met-same, within-wider}
use Rattle.alternating_theory.proofs.Parts.{end_of, IsPartOf}
use Rattle.alternating_theory.proofs.Values.{at-left, at-right}
use Rattle.alternating_theory.specs.Acceptance.{AcceptsAlong, Accepts}
use Rattle.alternating_theory.proofs.Accepts.{accepts-scores}
use Rattle.alternating_theory.proofs.Induction.{part-scored}
use Rattle.alternating_theory.proofs.LoopMerges.{merged-accepts}
use Rattle.alternating_theory.proofs.Scores.{Scored}
use Rattle.alternating_theory.proofs.Singles.{single_value, single_whole, single-step, single-at, single, single-whole}
use Rattle.alternating_theory.proofs.Splits.{below-left, split-score, split-value}
use Rattle.alternating_theory.proofs.Starts.{met_at, ScoredPart, IsStart, start-is, renamed, renamed-value}
use Rattle.alternating_theory.proofs.Trimming.{trimmed-score, trimmed-start}

module _ (f : Formula) (plain : HasNoClock f) (c : Course) (n top bottom : ℕ) (course : IsCourse c n top bottom) where
  abbrev part : Part
  part = part_of 0 f

  is : IsPartOf 0 (part_of 0 f) f
  is = part-means 0 f plain

  t : ScoredPart c n top bottom 0 (part_of 0 f) f
  t = part-scored 0 f plain c n top bottom course

  abbrev os : List Obligation
  os = part.rest ++ part.start ∷ []

  abbrev mid : ℕ
  mid = length part.rest

  many : length os ≡ mid + 1
  many = length-append part.rest (part.start ∷ [])

  middle : mid ≡ end_of 0 part
  middle = omega arith

  begins : 0 ≤ mid
  begins = omega arith

  follows : mid ≤ length os
  follows = omega (arith, many)

  last : obligation_at os mid ≡ part.start
  last = at-right part.rest (part.start ∷ []) 0 mid (omega arith)

  no-offset : (q : ℕ) → q ≡ q - 0
  no-offset q = omega arith

  same : (q : ℕ) → 0 ≤ q → q < end_of 0 part → obligation_at os q ≡ numbered 0 part.rest q
  same q l h = at-left part.rest (part.start ∷ []) q (omega arith) ∙ ap (λ k. obligation_at part.rest k) (no-offset q)

  old : Scored c n top bottom 0 mid (obligation_at os)
  old = renamed c n top bottom 0 (end_of 0 part) mid (numbered 0 part.rest) (obligation_at os) middle same t.score

  old-value : (p q : ℕ) → old.value p q ≡ t.score.value p q
  unfolding old
  old-value p q = renamed-value c n top bottom 0 (end_of 0 part) mid (numbered 0 part.rest) (obligation_at os) middle same t.score p q

  within : OwesWithin 0 (length os) part.start.delta
  within = within-wider 0 (end_of 0 part) 0 (length os) (omega arith) (omega (arith, many)) part.start.delta is.right.start.within

  value : ℕ → Truth
  value p = single_value c n top bottom course 0 mid (length os) many begins (obligation_at os) old.value part.start last within p

  value-is : (p : ℕ) → p < n → value p ≡ met_at c part.start t.score.value p
  unfolding value
  value-is p l =
      single-step c n top bottom course 0 mid (length os) many begins (obligation_at os) old.value part.start last within p l
      ∙ met-same 0 (end_of 0 part) part.start.delta is.right.start.within (c.letter p)
      (λ q. single_whole c n top bottom course 0 mid (length os) many begins (obligation_at os) old.value part.start last within (c.next p) q) (λ q. t.score.value (c.next p) q)
      (λ q x y. below-left mid q (old.value (c.next p) q) _ (omega arith) ∙ old-value (c.next p) q)

  means : (p : ℕ) → p < n → IsTrue (value p) ↔ Sat (read_from c p) f None
  means p l = subst (λ (b : Truth). IsTrue b ↔ Sat (read_from c p) f None) (sym (value-is p l)) (t.starts p l)

  start : IsStart n top bottom part.start value
  start = start-is c n top bottom course 0 part f is plain value means

  score : Scored c n top bottom 0 (length os) (obligation_at os)
  unfolding value
  score = split-score c n top bottom 0 mid (length os) (obligation_at os) old begins follows
      (single c n top bottom course 0 mid (length os) many begins (obligation_at os) old.value part.start last within start)

  score-start : (p : ℕ) → score.value p mid ≡ value p
  unfolding score value
  score-start p =
      split-value c n top bottom 0 mid (length os) (obligation_at os) old begins follows
      (single c n top bottom course 0 mid (length os) many begins (obligation_at os) old.value part.start last within start) p mid
      ∙ single-whole c n top bottom course 0 mid (length os) many begins (obligation_at os) old.value part.start last within start p mid
      ∙ single-at c n top bottom course 0 mid (length os) many begins (obligation_at os) old.value part.start last within p

  below : (q : ℕ) → q < length os → OwesWithin 0 mid (obligation_at os q).delta
  below = all-below part is.right

  pub unmerged-score : Scored c n top bottom 0 (length (unmerged f).obligations) (obligation_at (unmerged f).obligations)
  unmerged-score = trimmed-score os mid many below c n top bottom score

  pub unmerged-scores : (p : ℕ) → p < n → IsTrue (unmerged-score.value p (unmerged f).start) ↔ Sat (read_from c p) f None
  unfolding unmerged-score
  unmerged-scores p l = subst (λ (b : Truth). IsTrue b ↔ Sat (read_from c p) f None) (sym (trimmed-start os mid many below c n top bottom score p ∙ score-start p)) (means p l)

  -- over the first m places, which the course does not leave
  pub unmerged-accepts : (m : ℕ) → m ≤ n → ((p : ℕ) → p < m → c.next p < m) → 0 < m → AcceptsAlong (unmerged f) m c.letter c.next ↔ Sat (read_from c 0) f None
  unmerged-accepts m few stays some =
      iff-trans (accepts-scores c n top bottom (unmerged f) unmerged-score m few stays some (omega (arith, (unmerged-names f plain).start_last))) (unmerged-scores 0 (omega arith))

pub accepts-word : (f : Formula) → HasNoClock f → (word : Word) → 0 < length word.looped → Accepts (built f) word ↔ Sat (trace_of word) f None
accepts-word f plain word some =
    iff-trans
    (merged-accepts (unmerged f) (unmerged-names f plain) (class_in (classes_upto (unmerged f).obligations (unmerged f).start)) (places word) (letter_at word) (next_place word)
    (word-next word some) (omega arith))
    (subst (λ (w : Trace). Accepts (unmerged f) word ↔ Sat w f None) (sym (word_read word some))
    (unmerged-accepts f plain (course_of word) (places word + 2) (places word) (places word + 1) (word-course word some) (places word) (omega arith) (word-next word some) (omega arith)))
