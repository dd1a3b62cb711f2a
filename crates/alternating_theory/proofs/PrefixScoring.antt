-- The scores of r! and of r.
use Rattle.std.proofs.Common.{◌≡◌, ◌⊎◌, inl, inr, refl, sym, ap, ◌∙◌, subst, ℕ, suc, ◌+◌, ◌-◌, ◌≤◌, ◌<◌, Bool as Truth, true, false, List, [], length, arith}
use Rattle.std.specs.Prelude.{◌↔◌, IsTrue, not, ◌&&◌, nat_lt}
use Rattle.std.proofs.lemmas.Bool.{both_ways, not-true, not_from_false, false_from_ne_true, cases_Bool, and_parts, and_from, ltb-true, lt-ltb}
use Rattle.std.proofs.lemmas.List.{length-map}
use Rattle.psl_tree.specs.Clockless.{HasNoClock}
use Rattle.psl_tree.specs.Followed.{Tops, followed}
use Rattle.psl_tree.specs.Trace.{Trace, first, cut}
use Rattle.psl_tree.proofs.Choice.{from-exists, exists-map, iff-trans}
use Rattle.psl_tree.proofs.Traces.{cut-tops}
use Rattle.psl_tree.specs.Trees.{Sequence, Strong, Weak}
use Rattle.psl_tree.specs.declared.letter.Letter.{Letter}
use Rattle.psl_tree.specs.SequenceAutomata.{Edge, State, state_at, AcceptsFrom}
use Rattle.psl_tree.specs.SequenceConstruction.{nfa_of}
use Rattle.psl_tree.proofs.SequenceSteps.{take-step, make-step}
use Rattle.alternating_theory.specs.Courses.{Course, read_from}
use Rattle.alternating_theory.proofs.Cells.{start_of, Ends, To, Reads, Hits, Lasts, hits-here, hits-later, hits-least, hits-strong, lasts-weak, lasts-most, lasts-falls, cut-place, cut-read, reads-split}
use Rattle.alternating_theory.proofs.Ends.{IsCourse}
use Rattle.alternating_theory.proofs.Walks.{first-read, read-tops}
use Rattle.alternating_theory.specs.Construction.{prefix_part, prefix_obligation, taken}
use Rattle.alternating_theory.specs.Going.{goes_on, entry}
use Rattle.alternating_theory.specs.Obligations.{Obligation}
use Rattle.alternating_theory.specs.Positive.{met, OwesWithin}
use Rattle.alternating_theory.proofs.Aborts.{same-test}
use Rattle.alternating_theory.proofs.MetLaws.{met-same, within-wider}
use Rattle.alternating_theory.proofs.Parts.{end_of}
use Rattle.alternating_theory.proofs.Sequences.{nfa-below, prefix-look, prefix-placed}
use Rattle.alternating_theory.proofs.Taken.{GoesOn, taken-steps, steps-taken, taken-within}
use Rattle.alternating_theory.proofs.Blocks.{turn, with_block, found, block_value, block-at, block-step, block-sound, block, block-value}
use Rattle.alternating_theory.proofs.Scores.{AtEnds, Scored}
use Rattle.alternating_theory.proofs.Splits.{below_or, below-right, split-score, split-value}
use Rattle.alternating_theory.proofs.Starts.{met_at, ScoredPart, IsScored, no-score}
use Rattle.alternating_theory.proofs.States.{entry-is, start-below, from-below, to-below, Live, live, reads-live, live-tops, none-bottom}

module _ (offset : ℕ) (end : Truth) (r : Sequence) (h : HasNoClock r) (c : Course) (n top bottom : ℕ) (course : IsCourse c n top bottom) where
  abbrev states : List State
  states = (nfa_of r).states

  abbrev many : ℕ
  many = length (nfa_of r).states

  abbrev look : ℕ → Obligation
  look = prefix-look offset end r h

  abbrev high : ℕ
  high = end_of offset (prefix_part offset end (nfa_of r))

  pub size : end_of offset (prefix_part offset end (nfa_of r)) ≡ offset + length (nfa_of r).states
  size = ap (λ k. offset + k) (length-map (nfa_of r).states (λ (state : State). prefix_obligation (nfa_of r).states offset end state.edges))

  pub begins : offset ≤ offset
  begins = omega arith

  pub follows : offset ≤ high
  follows = omega (arith, size)

  pub kind : (t : ℕ) → t < many → (look (offset + t)).accepting ≡ end
  kind t l = ap (λ (o : Obligation). o.accepting) (prefix-placed offset end r h t l)

  pub owing : (t : ℕ) → t < many → OwesWithin offset high (look (offset + t)).delta
  owing t l = subst (λ (o : Obligation). OwesWithin offset high o.delta) (sym (prefix-placed offset end r h t l))
      (within-wider offset (offset + many) offset high (omega arith) (omega (arith, size)) (taken states offset (state_at states t).edges)
      (taken-within states offset many (state_at states t).edges (nfa-below r h t)))

  pub base : Scored c n top bottom offset offset (prefix-look offset end r h)
  base = no-score c n top bottom offset offset look begins

  -- the pairs that the block finds
  abbrev pub seen : ℕ → ℕ → Truth
  seen p t = found c n top bottom course offset offset high many size begins look base.value end kind owing p t

  abbrev pub given : (ℕ → ℕ → Truth) → ℕ → ℕ → Truth
  given f p q = with_block c n top bottom course offset offset high many size begins look base.value end kind owing f p q

  given-at : (f : ℕ → ℕ → Truth) (p t : ℕ) → given f p (offset + t) ≡ turn end (f p t)
  given-at f p t = below-right offset (offset + t) (base.value p (offset + t)) (turn end (f p (offset + t - offset))) (omega arith)
      ∙ (let e : offset + t - offset ≡ t = omega arith in ap (λ i. turn end (f p i)) e)

  -- a state's delta is met where some step leads to an end, or to a state that goes on and has its value
  pub steps-there : (f : ℕ → ℕ → Truth) (p t : ℕ) → t < many → IsTrue (met (look (offset + t)).delta (c.letter p) (λ q. given f (c.next p) q))
      → (k : ℕ) × To states t (c.letter p) k × (Ends states k ⊎ (GoesOn states k × IsTrue (turn end (f (c.next p) k))))
  steps-there f p t l v =
      let s = take-step (state_at states t).edges (c.letter p) (λ k. Ends states k ⊎ (GoesOn states k × IsTrue (given f (c.next p) (offset + k))))
      (taken-steps states offset (c.letter p) (λ q. given f (c.next p) q) (state_at states t).edges
      (subst (λ (o : Obligation). IsTrue (met o.delta (c.letter p) (λ q. given f (c.next p) q))) (prefix-placed offset end r h t l) v)) in (
        s.0,
        s.1,
        elim s.2 as (λ _. Ends states s.0 ⊎ (GoesOn states s.0 × IsTrue (turn end (f (c.next p) s.0)))) [
          | inl a ↦ inl a
          | inr a ↦ inr (a.0, sym (given-at f (c.next p) s.0) ∙ a.1)
        ],
      )

  pub steps-back : (f : ℕ → ℕ → Truth) (p t k : ℕ) → t < many → To states t (c.letter p) k → (Ends states k ⊎ (GoesOn states k × IsTrue (turn end (f (c.next p) k))))
      → IsTrue (met (look (offset + t)).delta (c.letter p) (λ q. given f (c.next p) q))
  steps-back f p t k l s g =
      subst (λ (o : Obligation). IsTrue (met o.delta (c.letter p) (λ q. given f (c.next p) q))) (sym (prefix-placed offset end r h t l))
      (steps-taken states offset (c.letter p) (λ q. given f (c.next p) q) (state_at states t).edges
      (make-step (state_at states t).edges (c.letter p) k (λ k. Ends states k ⊎ (GoesOn states k × IsTrue (given f (c.next p) (offset + k)))) s
      (elim g as (λ _. Ends states k ⊎ (GoesOn states k × IsTrue (given f (c.next p) (offset + k)))) [
        | inl a ↦ inl a
        | inr a ↦ inr (a.0, given-at f (c.next p) k ∙ a.1)
      ])))

  pub seen-step : (p t : ℕ) → p < n → t < many → turn end (seen p t) ≡ met (look (offset + t)).delta (c.letter p) (λ q. given seen (c.next p) q)
  seen-step p t l m =
      sym (block-at c n top bottom course offset offset high many size begins look base.value end kind owing p t)
      ∙ block-step c n top bottom course offset offset high many size begins look base.value end kind owing p t l m

  -- the score, from what the values mean
  module _ (M : ℕ → ℕ → Type 0) (means : (p t : ℕ) → p < n → t < many → IsTrue (turn end (seen p t)) ↔ M p t)
      (goes : (p t : ℕ) → p < n → M p t → Live states (nfa-below r h) t) (tops : (t : ℕ) → Live states (nfa-below r h) t → M top t) (bottoms : (t : ℕ) → M bottom t → ⊥) where
    abbrev value : ℕ → ℕ → Truth
    value p q = block_value c n top bottom course offset offset high many size begins look base.value end kind owing p q

    value-at : (p t : ℕ) → value p (offset + t) ≡ turn end (seen p t)
    value-at p t = block-at c n top bottom course offset offset high many size begins look base.value end kind owing p t

    placed : (P : ℕ → Type 0) → ((t : ℕ) → t < many → P (offset + t)) → (q : ℕ) → offset ≤ q → q < high → P q
    placed P k q x y = let e : offset + (q - offset) ≡ q = omega arith in subst P e (k (q - offset) (omega (arith, size)))

    top-is : (t : ℕ) → t < many → value top (offset + t) ≡ (look (offset + t)).top
    top-is t l =
        value-at top t
        ∙ same-test (turn end (seen top t)) (goes_on states (state_at states t).edges) (λ v. goes top t course.top_below ((means top t course.top_below l).0 v))
        (λ v. (means top t course.top_below l).1 (tops t v))
        ∙ sym (ap (λ (o : Obligation). o.top) (prefix-placed offset end r h t l))

    bottom-is : (t : ℕ) → t < many → value bottom (offset + t) ≡ (look (offset + t)).bottom
    bottom-is t l =
        value-at bottom t
        ∙ false_from_ne_true (turn end (seen bottom t)) (λ v. bottoms t ((means bottom t course.bottom_below l).0 v))
        ∙ sym (ap (λ (o : Obligation). o.bottom) (prefix-placed offset end r h t l))

    pub prefix-ends : AtEnds n top bottom offset high look value
    prefix-ends = record {
      at_top = placed (λ q. value top q ≡ (look q).top) top-is;
      at_bottom = placed (λ q. value bottom q ≡ (look q).bottom) bottom-is;
      up = λ p q i. placed (λ q. IsTrue (value p q) → IsTrue (look q).top) (λ t l v.
          subst (λ (o : Obligation). IsTrue o.top) (sym (prefix-placed offset end r h t l)) (goes p t i ((means p t i l).0 (sym (value-at p t) ∙ v)))) q;
      down = λ p q i. placed (λ q. IsTrue (look q).bottom → IsTrue (value p q)) (λ t l v.
          absurd (both_ways false refl (subst (λ (o : Obligation). IsTrue o.bottom) (prefix-placed offset end r h t l) v))) q;
    }

    pub prefix-score : Scored c n top bottom offset high (prefix-look offset end r h)
    prefix-score = split-score c n top bottom offset offset high look base begins follows
        (block c n top bottom course offset offset high many size begins look base.value end kind owing prefix-ends)

    score-is : (p q : ℕ) → prefix-score.value p q ≡ given seen p q
    unfolding prefix-score
    score-is p q =
        split-value c n top bottom offset offset high look base begins follows
        (block c n top bottom course offset offset high many size begins look base.value end kind owing prefix-ends) p q
        ∙ ap (λ (v : Truth). below_or offset q (base.value p q) v) (block-value c n top bottom course offset offset high many size begins look base.value end kind owing prefix-ends p q)

    pub prefix-starts : (p : ℕ) → p < n → IsTrue (met_at c (prefix_obligation (nfa_of r).states offset end (entry (nfa_of r))) prefix-score.value p) ↔ M p (start_of r)
    prefix-starts p l = subst (λ (v : Truth). IsTrue v ↔ M p (start_of r)) (sym same) (means p (start_of r) l (start-below r h))
      where
        same : met_at c (prefix_obligation (nfa_of r).states offset end (entry (nfa_of r))) prefix-score.value p ≡ turn end (seen p (start_of r))
        same =
            ap (λ (es : List Edge). met (taken (nfa_of r).states offset es) (c.letter p) (λ q. prefix-score.value (c.next p) q)) (entry-is r)
            ∙ ap (λ (o : Obligation). met o.delta (c.letter p) (λ q. prefix-score.value (c.next p) q)) (sym (prefix-placed offset end r h (start_of r) (start-below r h)))
            ∙ met-same offset high (look (offset + start_of r)).delta (owing (start_of r) (start-below r h)) (c.letter p) (λ q. prefix-score.value (c.next p) q) (λ q. given seen (c.next p) q)
            (λ q x y. score-is (c.next p) q)
            ∙ sym (seen-step p (start_of r) l (start-below r h))

-- r!

module _ (offset : ℕ) (r : Sequence) (h : HasNoClock r) (c : Course) (n top bottom : ℕ) (course : IsCourse c n top bottom) where
  abbrev cells : ℕ → ℕ → Truth
  cells p t = seen offset false r h c n top bottom course p t

  abbrev Hit : ℕ → ℕ → Type 0
  Hit p t = Hits (nfa_of r).states c (λ _. Unit {0}) p t

  strong-sound : (p t : ℕ) → p < n → t < length (nfa_of r).states → IsTrue (cells p t) → Hit p t
  strong-sound = block-sound c n top bottom course offset offset (end_of offset (prefix_part offset false (nfa_of r))) (length (nfa_of r).states)
      (size offset false r h c n top bottom course) (begins offset false r h c n top bottom course) (prefix-look offset false r h) (base offset false r h c n top bottom course).value false
      (kind offset false r h c n top bottom course) (owing offset false r h c n top bottom course) Hit (λ f k p t l m v.
      (let s = steps-there offset false r h c n top bottom course f p t m v in elim s.2 as (λ _. Hit p t) [
        | inl a ↦ hits-here (nfa_of r).states c (λ _. Unit {0}) p t s.0 s.1 a tt
        | inr a ↦ hits-later (nfa_of r).states c (λ _. Unit {0}) p t s.0 s.1
            (k (c.next p) s.0 (course.next_below p l) (to-below (nfa_of r).states (nfa-below r h) t (c.letter p) s.0 s.1) a.1)
      ]))

  strong-complete : (p t : ℕ) → p < n → Hit p t → IsTrue (cells p t)
  strong-complete = hits-least (nfa_of r).states c (λ _. Unit {0}) n course.next_below (Live (nfa_of r).states (nfa-below r h)) (live (nfa_of r).states (nfa-below r h))
      cells (λ p t k l s e _. back p t k l s (inl e)) (λ p t k l s g v. back p t k l s (inr (g, v)))
    where
      back : (p t k : ℕ) → p < n → To (nfa_of r).states t (c.letter p) k → (Ends (nfa_of r).states k ⊎ (GoesOn (nfa_of r).states k × IsTrue (cells (c.next p) k))) → IsTrue (cells p t)
      back p t k l s g =
          seen-step offset false r h c n top bottom course p t l (from-below (nfa_of r).states t (c.letter p) k s)
          ∙ steps-back offset false r h c n top bottom course cells p t k (from-below (nfa_of r).states t (c.letter p) k s) s g

  strong-goes : (p t : ℕ) → Hit p t → Live (nfa_of r).states (nfa-below r h) t
  strong-goes p t u = from-exists (goes_on (nfa_of r).states (state_at (nfa_of r).states t).edges) u (λ j a. live (nfa_of r).states (nfa-below r h) t (c.letter p) (first j (read_from c (c.next p)))
      (subst (λ (l : List Letter). AcceptsFrom (nfa_of r).states t l) (first-read c p j) a.0))

  strong-tops : (t : ℕ) → Live (nfa_of r).states (nfa-below r h) t → Hit top t
  strong-tops t u = exists-map (λ i a. (subst (λ (v : Trace). AcceptsFrom (nfa_of r).states t (first (suc i) v)) (sym (read-tops c top course.top_letter course.top_next)) a, tt))
      (live-tops (nfa_of r).states (nfa-below r h) t u)

  strong-bottoms : (t : ℕ) → Hit bottom t → ⊥
  strong-bottoms t u = u (λ j a. (let s = take-step (state_at (nfa_of r).states t).edges (c.letter bottom) (λ k. AcceptsFrom (nfa_of r).states k (first j (read_from c (c.next bottom))))
      (subst (λ (l : List Letter). AcceptsFrom (nfa_of r).states t l) (first-read c bottom j) a.0) in
      none-bottom (nfa_of r).states (nfa-below r h) t (c.letter bottom) s.0 course.bottom_letter s.1))

  pub strong-scored : ScoredPart c n top bottom offset (prefix_part offset false (nfa_of r)) (Strong r)
  strong-scored = record {
    score = prefix-score offset false r h c n top bottom course Hit (λ p t l m. (strong-sound p t l m, strong-complete p t l)) (λ p t l. strong-goes p t) strong-tops strong-bottoms;
    starts = λ p l. iff-trans
        (prefix-starts offset false r h c n top bottom course Hit (λ p t l m. (strong-sound p t l m, strong-complete p t l)) (λ p t l. strong-goes p t) strong-tops strong-bottoms p l)
        (hits-strong (nfa_of r).states c r h p refl);
  }

pub strong-score : (offset : ℕ) (r : Sequence) → HasNoClock r → IsScored offset (prefix_part offset false (nfa_of r)) (Strong r)
strong-score offset r h c n top bottom course = strong-scored offset r h c n top bottom course

-- r

module _ (offset : ℕ) (r : Sequence) (h : HasNoClock r) (c : Course) (n top bottom : ℕ) (course : IsCourse c n top bottom) where
  -- from these cells it does not last
  abbrev dead : ℕ → ℕ → Truth
  dead p t = seen offset true r h c n top bottom course p t

  abbrev Last : ℕ → ℕ → Type 0
  Last p t = Lasts (nfa_of r).states c p t

  weak-goes : (p t : ℕ) → Last p t → Live (nfa_of r).states (nfa-below r h) t
  weak-goes p t u = reads-live (nfa_of r).states (nfa-below r h) (cut (read_from c p) 1) t (cut-place (nfa_of r).states c p 1 0) (u 0)

  weak-dead : (p t : ℕ) → p < n → t < length (nfa_of r).states → IsTrue (dead p t) → Last p t → ⊥
  weak-dead = block-sound c n top bottom course offset offset (end_of offset (prefix_part offset true (nfa_of r))) (length (nfa_of r).states)
      (size offset true r h c n top bottom course) (begins offset true r h c n top bottom course) (prefix-look offset true r h) (base offset true r h c n top bottom course).value true
      (kind offset true r h c n top bottom course) (owing offset true r h c n top bottom course) (λ p t. Last p t → ⊥) (λ f k p t l m v u.
      lasts-falls (nfa_of r).states c p t
      (λ i s e. both_ways _ (not-true _ v) (steps-back offset true r h c n top bottom course f p t i m s (inl e)))
      (λ i s w. elim (cases_Bool (f (c.next p) i)) [
        | inl a ↦ k (c.next p) i (course.next_below p l) (to-below (nfa_of r).states (nfa-below r h) t (c.letter p) i s) a w
        | inr a ↦ both_ways _ (not-true _ v) (steps-back offset true r h c n top bottom course f p t i m s (inr (weak-goes (c.next p) i w, not_from_false (f (c.next p) i) a)))
      ]) u)

  abbrev alive : ℕ → ℕ → Truth
  alive p t = nat_lt t (length (nfa_of r).states) && not (dead p t)

  weak-lasts : (p t : ℕ) → p < n → IsTrue (alive p t) → Last p t
  weak-lasts = lasts-most (nfa_of r).states c n course.next_below alive (λ p t l v.
      (let parts = and_parts (nat_lt t (length (nfa_of r).states)) (not (dead p t)) v in
      let m = ltb-true t (length (nfa_of r).states) parts.0 in
      let s = steps-there offset true r h c n top bottom course dead p t m (sym (seen-step offset true r h c n top bottom course p t l m) ∙ parts.1) in (
        s.0,
        s.1,
        elim s.2 as (λ _. Ends (nfa_of r).states s.0 ⊎ (Reads (nfa_of r).states (followed [] Tops) s.0 × IsTrue (alive (c.next p) s.0))) [
          | inl a ↦ inl a
          | inr a ↦ inr (
            live-tops (nfa_of r).states (nfa-below r h) s.0 a.0,
            and_from (nat_lt s.0 (length (nfa_of r).states)) (not (dead (c.next p) s.0))
                (lt-ltb s.0 (length (nfa_of r).states) (to-below (nfa_of r).states (nfa-below r h) t (c.letter p) s.0 s.1)) a.1,
          )
        ],
      )))

  weak-means : (p t : ℕ) → p < n → t < length (nfa_of r).states → IsTrue (not (dead p t)) ↔ Last p t
  weak-means p t l m = (
    λ v. weak-lasts p t l (and_from (nat_lt t (length (nfa_of r).states)) (not (dead p t)) (lt-ltb t (length (nfa_of r).states) m) v),
    λ u. not_from_false (dead p t) (false_from_ne_true (dead p t) (λ v. weak-dead p t l m v u)),
  )

  weak-tops : (t : ℕ) → Live (nfa_of r).states (nfa-below r h) t → Last top t
  weak-tops t u j = subst (λ (v : Trace). Reads (nfa_of r).states v t)
      (sym (ap (λ (v : Trace). cut v (suc j)) (read-tops c top course.top_letter course.top_next) ∙ cut-tops (suc j))) (live-tops (nfa_of r).states (nfa-below r h) t u)

  weak-bottoms : (t : ℕ) → Last bottom t → ⊥
  weak-bottoms t u = reads-split (nfa_of r).states (c.letter bottom) (cut (read_from c (c.next bottom)) 0) t
      (subst (λ (v : Trace). Reads (nfa_of r).states v t) (cut-read (nfa_of r).states c bottom 0) (u 0))
      (λ k s e. none-bottom (nfa_of r).states (nfa-below r h) t (c.letter bottom) k course.bottom_letter s)
      (λ k s e. none-bottom (nfa_of r).states (nfa-below r h) t (c.letter bottom) k course.bottom_letter s)

  pub weak-scored : ScoredPart c n top bottom offset (prefix_part offset true (nfa_of r)) (Weak r)
  weak-scored = record {
    score = prefix-score offset true r h c n top bottom course Last weak-means (λ p t l. weak-goes p t) weak-tops weak-bottoms;
    starts = λ p l. iff-trans (prefix-starts offset true r h c n top bottom course Last weak-means (λ p t l. weak-goes p t) weak-tops weak-bottoms p l)
        (lasts-weak (nfa_of r).states c r h p refl);
  }

pub weak-score : (offset : ℕ) (r : Sequence) → HasNoClock r → IsScored offset (prefix_part offset true (nfa_of r)) (Weak r)
weak-score offset r h c n top bottom course = weak-scored offset r h c n top bottom course
