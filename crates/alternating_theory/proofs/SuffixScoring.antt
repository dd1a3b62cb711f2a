-- The score of r |-> f.
use Rattle.std.proofs.Common.{◌≡◌, inl, inr, refl, sym, ap, ◌∙◌, subst, ℕ, suc, ◌+◌, ◌-◌, ◌≤◌, ◌<◌, Bool as Truth, true, false, List, [], ◌++◌, length, map, arith}
use Rattle.std.specs.Prelude.{◌↔◌, IsTrue, not, ◌&&◌, ◌||◌, nat_lt, None}
use Rattle.std.proofs.lemmas.Bool.{both_ways, not-true, not_from_false, false_from_ne_true, cases_Bool, and_parts, and_from, or_cases, or_left, or_right, ltb-true, lt-ltb}
use Rattle.std.proofs.lemmas.List.{length-append, length-map}
use Rattle.psl_tree.specs.Clockless.{HasNoClock, IsPlain}
use Rattle.psl_tree.specs.Followed.{Tops, followed}
use Rattle.psl_tree.specs.Satisfaction.{Sat}
use Rattle.psl_tree.specs.Trace.{Trace, dual_letter, first}
use Rattle.psl_tree.proofs.Choice.{from-exists, iff-trans}
use Rattle.psl_tree.specs.Trees.{Sequence, Formula, Suffix}
use Rattle.psl_tree.specs.declared.letter.Letter.{Letter}
use Rattle.psl_tree.specs.SequenceAutomata.{Edge, State, state_at, AcceptsFrom}
use Rattle.psl_tree.specs.SequenceConstruction.{nfa_of}
use Rattle.psl_tree.proofs.SequenceSteps.{take-step}
use Rattle.alternating_theory.specs.Courses.{Course, walk, read_from, opposite}
use Rattle.alternating_theory.proofs.Cells.{start_of, Ends, To, Follows, follows-here, follows-later, follows-most, follows-suffix}
use Rattle.alternating_theory.proofs.Ends.{IsCourse}
use Rattle.alternating_theory.proofs.Walks.{first-read, read-tops, walk-below, walk-stays}
use Rattle.alternating_theory.specs.Construction.{Part, suffix_part, suffix_obligation, going, quiet}
use Rattle.alternating_theory.specs.Going.{goes_on, entry}
use Rattle.alternating_theory.specs.Obligations.{Obligation, numbered}
use Rattle.alternating_theory.specs.Positive.{met, OwesWithin}
use Rattle.alternating_theory.proofs.Aborts.{same-test}
use Rattle.alternating_theory.proofs.Edges.{LeadBelow}
use Rattle.alternating_theory.proofs.MetLaws.{met-same, within-wider}
use Rattle.alternating_theory.proofs.Parts.{IsPartOf}
use Rattle.alternating_theory.proofs.Sequences.{nfa-below, placed-at}
use Rattle.alternating_theory.proofs.Taken.{GoesOn, going-tells, tells-going, quiet-tells, tells-quiet, going-within, quiet-within}
use Rattle.alternating_theory.proofs.Values.{in-front, in-back}
use Rattle.alternating_theory.proofs.Blocks.{with_block, found, block_value, block-at, block-step, block-sound, block, block-value}
use Rattle.alternating_theory.proofs.Scores.{AtEnds, Scored}
use Rattle.alternating_theory.proofs.Splits.{below_or, below-left, below-right, split-score, split-value}
use Rattle.alternating_theory.proofs.Starts.{met_at, ScoredPart, IsScored, IsStart, start-is, renamed, renamed-value}
use Rattle.alternating_theory.proofs.States.{entry-is, start-below, to-below, Live, live, live-tops, none-bottom}

module _ (offset : ℕ) (r : Sequence) (h : HasNoClock r) (a : Part) (f : Formula) (is : IsPartOf offset a f) (plain : IsPlain f)
    (c : Course) (n top bottom : ℕ) (course : IsCourse c n top bottom) (t : ScoredPart c n top bottom offset a f) where
  abbrev states : List State
  states = (nfa_of r).states

  abbrev many : ℕ
  many = length (nfa_of r).states

  abbrev mid : ℕ
  mid = offset + length a.rest

  abbrev step : State → Obligation
  step = λ state. suffix_obligation (nfa_of r).states (offset + length a.rest) true a.start state.edges

  abbrev look : ℕ → Obligation
  look = numbered offset (a.rest ++ map step (nfa_of r).states)

  abbrev high : ℕ
  high = offset + length (a.rest ++ map step (nfa_of r).states)

  size : high ≡ mid + many
  size = omega (arith, length-append a.rest (map step (nfa_of r).states), length-map (nfa_of r).states step)

  begins : offset ≤ mid
  begins = omega arith

  follows : mid ≤ high
  follows = omega (arith, size)

  front : (q : ℕ) → offset ≤ q → q < mid → look q ≡ numbered offset a.rest q
  front q l k = in-front offset a.rest (map step (nfa_of r).states) q l k

  placed : (q : ℕ) → q < many → look (mid + q) ≡ suffix_obligation states mid true a.start (state_at states q).edges
  placed q l = in-back offset a.rest (map step (nfa_of r).states) (mid + q) (omega arith) ∙ placed-at step mid (nfa_of r).states q l

  old : Scored c n top bottom offset mid look
  old = renamed c n top bottom offset mid mid (numbered offset a.rest) look refl front t.score

  old-value : (p q : ℕ) → old.value p q ≡ t.score.value p q
  unfolding old
  old-value p q = renamed-value c n top bottom offset mid mid (numbered offset a.rest) look refl front t.score p q

  kind : (q : ℕ) → q < many → (look (mid + q)).accepting ≡ true
  kind q l = ap (λ (o : Obligation). o.accepting) (placed q l)

  over-within : (es : List Edge) → LeadBelow many es → OwesWithin offset high (suffix_obligation states mid true a.start es).delta
  over-within es w = (
    within-wider mid (mid + many) offset high (omega arith) (omega (arith, size)) (going states mid es) (going-within states mid many es w),
    (quiet-within states offset high es, within-wider offset mid offset high (omega arith) (omega (arith, size)) a.start.delta is.right.start.within),
  )

  owing : (q : ℕ) → q < many → OwesWithin offset high (look (mid + q)).delta
  owing q l = subst (λ (o : Obligation). OwesWithin offset high o.delta) (sym (placed q l)) (over-within (state_at states q).edges (nfa-below r h q))

  -- the cells from which some path leads to a place without f
  abbrev bad : ℕ → ℕ → Truth
  bad p q = found c n top bottom course offset mid high many size begins look old.value true kind owing p q

  abbrev given : (ℕ → ℕ → Truth) → ℕ → ℕ → Truth
  given m p q = with_block c n top bottom course offset mid high many size begins look old.value true kind owing m p q

  given-at : (m : ℕ → ℕ → Truth) (p q : ℕ) → given m p (mid + q) ≡ not (m p q)
  given-at m p q = below-right mid (mid + q) (old.value p (mid + q)) (not (m p (mid + q - mid))) (omega arith)
      ∙ (let e : mid + q - mid ≡ q = omega arith in ap (λ i. not (m p i)) e)

  -- f at a place
  abbrev part : ℕ → Truth
  part p = met_at c a.start t.score.value p

  part-at : (m : ℕ → ℕ → Truth) (p : ℕ) → met a.start.delta (c.letter p) (λ q. given m (c.next p) q) ≡ part p
  part-at m p = met-same offset mid a.start.delta is.right.start.within (c.letter p) (λ q. given m (c.next p) q) (λ q. t.score.value (c.next p) q)
      (λ q x y. below-left mid q (old.value (c.next p) q) _ y ∙ old-value (c.next p) q)

  abbrev asked : (ℕ → ℕ → Truth) → ℕ → List Edge → Truth
  asked m p es = met (suffix_obligation states mid true a.start es).delta (c.letter p) (λ q. given m (c.next p) q)

  goes-there : (m : ℕ → ℕ → Truth) (p q : ℕ) → IsTrue (asked m p (state_at states q).edges) → (k : ℕ) → To states q (dual_letter (c.letter p)) k → GoesOn states k → IsTrue (not (m (c.next p) k))
  goes-there m p q v k s g =
      let es = (state_at states q).edges in
      let parts = and_parts (met (going states mid es) (c.letter p) (λ q. given m (c.next p) q)) (met (quiet states es) (c.letter p) (λ q. given m (c.next p) q) || met a.start.delta (c.letter p) (λ q. given m (c.next p) q)) v in
      sym (given-at m (c.next p) k) ∙ going-tells states mid (c.letter p) (λ q. given m (c.next p) q) es parts.0 k s g

  ends-there : (m : ℕ → ℕ → Truth) (p q : ℕ) → IsTrue (asked m p (state_at states q).edges) → (k : ℕ) → To states q (dual_letter (c.letter p)) k → Ends states k → IsTrue (part p)
  ends-there m p q v k s e =
      let es = (state_at states q).edges in
      let parts = and_parts (met (going states mid es) (c.letter p) (λ q. given m (c.next p) q)) (met (quiet states es) (c.letter p) (λ q. given m (c.next p) q) || met a.start.delta (c.letter p) (λ q. given m (c.next p) q)) v in
      elim (or_cases (met (quiet states es) (c.letter p) (λ q. given m (c.next p) q)) (met a.start.delta (c.letter p) (λ q. given m (c.next p) q)) parts.1) [
        | inl x ↦ absurd (quiet-tells states mid (c.letter p) (λ q. given m (c.next p) q) es x k s e)
        | inr x ↦ sym (part-at m p) ∙ x
      ]

  back : (m : ℕ → ℕ → Truth) (p q : ℕ) → ((k : ℕ) → To states q (dual_letter (c.letter p)) k → GoesOn states k → IsTrue (not (m (c.next p) k)))
      → ((k : ℕ) → To states q (dual_letter (c.letter p)) k → Ends states k → IsTrue (part p)) → IsTrue (asked m p (state_at states q).edges)
  back m p q goes ends =
      and_from (met (going states mid (state_at states q).edges) (c.letter p) (λ q. given m (c.next p) q))
      (met (quiet states (state_at states q).edges) (c.letter p) (λ q. given m (c.next p) q) || met a.start.delta (c.letter p) (λ q. given m (c.next p) q))
      (tells-going states mid (c.letter p) (λ q. given m (c.next p) q) (state_at states q).edges (λ k s g. given-at m (c.next p) k ∙ goes k s g))
      (elim (cases_Bool (part p)) [
        | inl e ↦ or_right (met (quiet states (state_at states q).edges) (c.letter p) (λ q. given m (c.next p) q)) (met a.start.delta (c.letter p) (λ q. given m (c.next p) q)) (part-at m p ∙ e)
        | inr e ↦ or_left (met (quiet states (state_at states q).edges) (c.letter p) (λ q. given m (c.next p) q)) (met a.start.delta (c.letter p) (λ q. given m (c.next p) q))
            (tells-quiet states mid (c.letter p) (λ q. given m (c.next p) q) (state_at states q).edges (λ k s g. both_ways (part p) e (ends k s g)))
      ])

  asked-is : (m : ℕ → ℕ → Truth) (p q : ℕ) → q < many → met (look (mid + q)).delta (c.letter p) (λ i. given m (c.next p) i) ≡ asked m p (state_at states q).edges
  asked-is m p q l = ap (λ (o : Obligation). met o.delta (c.letter p) (λ i. given m (c.next p) i)) (placed q l)

  bad-step : (p q : ℕ) → p < n → q < many → not (bad p q) ≡ asked bad p (state_at states q).edges
  bad-step p q l k =
      sym (block-at c n top bottom course offset mid high many size begins look old.value true kind owing p q)
      ∙ block-step c n top bottom course offset mid high many size begins look old.value true kind owing p q l k
      ∙ asked-is bad p q k

  abbrev F : ℕ → Type 0
  F q = Sat (read_from c q) f None

  abbrev Led : ℕ → ℕ → Type 0
  Led p q = Follows (nfa_of r).states c F p q

  bad-sound : (p q : ℕ) → p < n → q < many → IsTrue (bad p q) → Led p q → ⊥
  bad-sound = block-sound c n top bottom course offset mid high many size begins look old.value true kind owing (λ p q. Led p q → ⊥) (λ m k p q l j v u.
      both_ways _ (not-true _ v) (asked-is m p q j ∙ back m p q
      (λ i s g. elim (cases_Bool (m (c.next p) i)) [
        | inl x ↦ absurd (k (c.next p) i (course.next_below p l) (to-below states (nfa-below r h) q (dual_letter (c.letter p)) i s) x (follows-later states c F p q i s u))
        | inr x ↦ not_from_false (m (c.next p) i) x
      ])
      (λ i s e. (t.starts p l).1 (follows-here states c F p q i s e u))))

  abbrev good : ℕ → ℕ → Truth
  good p q = nat_lt q many && not (bad p q)

  good-asked : (p q : ℕ) → p < n → IsTrue (good p q) → IsTrue (asked bad p (state_at states q).edges)
  good-asked p q l v = let parts = and_parts (nat_lt q many) (not (bad p q)) v in sym (bad-step p q l (ltb-true q many parts.0)) ∙ parts.1

  good-leads : (p q : ℕ) → p < n → IsTrue (good p q) → Led p q
  good-leads = follows-most states c F n course.next_below (Live states (nfa-below r h)) (live states (nfa-below r h)) good
      (λ p q k l v s e. (t.starts p l).0 (ends-there bad p q (good-asked p q l v) k s e))
      (λ p q k l v s g. and_from (nat_lt k many) (not (bad (c.next p) k)) (lt-ltb k many (to-below states (nfa-below r h) q (dual_letter (c.letter p)) k s))
      (goes-there bad p q (good-asked p q l v) k s g))

  means : (p q : ℕ) → p < n → q < many → IsTrue (not (bad p q)) ↔ Led p q
  means p q l k = (
    λ v. good-leads p q l (and_from (nat_lt q many) (not (bad p q)) (lt-ltb q many k) v),
    λ u. not_from_false (bad p q) (false_from_ne_true (bad p q) (λ v. bad-sound p q l k v u)),
  )

  -- the ends

  s : IsStart n top bottom a.start part
  s = start-is c n top bottom course offset a f is plain part t.starts

  led-live : (p q : ℕ) → (Live states (nfa-below r h) q → ⊥) → Led p q
  led-live p q none j x = absurd (none (live states (nfa-below r h) q (dual_letter (c.letter p)) (first j (read_from (opposite c) (c.next p)))
      (subst (λ (l : List Letter). AcceptsFrom states q l) (first-read (opposite c) p j) x)))

  led-all : (p q : ℕ) → p < n → IsTrue a.start.bottom → Led p q
  led-all p q l v j x = (t.starts (walk c.next j p) (walk-below c.next n course.next_below j p l)).0
      (s.down (walk c.next j p) (walk-below c.next n course.next_below j p l) v)

  led-top : (q : ℕ) → Led top q
  led-top q j x =
      let k = take-step (state_at states q).edges (dual_letter (c.letter top)) (λ i. AcceptsFrom states i (first j (read_from (opposite c) (c.next top))))
      (subst (λ (l : List Letter). AcceptsFrom states q l) (first-read (opposite c) top j) x) in
      absurd (none-bottom states (nfa-below r h) q (dual_letter (c.letter top)) k.0 (ap dual_letter course.top_letter) k.1)

  abbrev below : ℕ → Truth
  below q = not (goes_on states (state_at states q).edges) || a.start.bottom

  led-bottom : (q : ℕ) → Led bottom q → IsTrue (below q)
  led-bottom q u = elim (cases_Bool (goes_on states (state_at states q).edges)) [
    | inl e ↦ or_right (not (goes_on states (state_at states q).edges)) a.start.bottom
        (from-exists a.start.bottom (live-tops states (nfa-below r h) q e) (λ i x. sym s.at_bottom
        ∙ (t.starts bottom course.bottom_below).1 (subst F (walk-stays c.next bottom course.bottom_next i)
        (u i (subst (λ (v : Trace). AcceptsFrom states q (first (suc i) v)) (sym tops) x)))))
    | inr e ↦ or_left (not (goes_on states (state_at states q).edges)) a.start.bottom (not_from_false (goes_on states (state_at states q).edges) e)
  ]
    where
      tops : read_from (opposite c) bottom ≡ followed [] Tops
      tops = read-tops (opposite c) bottom (ap dual_letter course.bottom_letter) course.bottom_next

  led-below : (p q : ℕ) → p < n → IsTrue (below q) → Led p q
  led-below p q l v = elim (or_cases (not (goes_on states (state_at states q).edges)) a.start.bottom v) as (λ _. Led p q) [
    | inl x ↦ led-live p q (λ g. both_ways (goes_on states (state_at states q).edges) (not-true (goes_on states (state_at states q).edges) x) g)
    | inr x ↦ led-all p q l x
  ]

  abbrev value : ℕ → ℕ → Truth
  value p q = block_value c n top bottom course offset mid high many size begins look old.value true kind owing p q

  value-at : (p q : ℕ) → value p (mid + q) ≡ not (bad p q)
  value-at p q = block-at c n top bottom course offset mid high many size begins look old.value true kind owing p q

  each : (P : ℕ → Type 0) → ((q : ℕ) → q < many → P (mid + q)) → (q : ℕ) → mid ≤ q → q < high → P q
  each P k q x y = let e : mid + (q - mid) ≡ q = omega arith in subst P e (k (q - mid) (omega (arith, size)))

  ends : AtEnds n top bottom mid high look value
  ends = record {
    at_top = each (λ q. value top q ≡ (look q).top) (λ q l. value-at top q ∙ (means top q course.top_below l).1 (led-top q) ∙ sym (ap (λ (o : Obligation). o.top) (placed q l)));
    at_bottom = each (λ q. value bottom q ≡ (look q).bottom) (λ q l.
        value-at bottom q
        ∙ same-test (not (bad bottom q)) (below q) (λ v. led-bottom q ((means bottom q course.bottom_below l).0 v)) (λ v. (means bottom q course.bottom_below l).1 (led-below bottom q course.bottom_below v))
        ∙ sym (ap (λ (o : Obligation). o.bottom) (placed q l)));
    up = λ p q i. each (λ q. IsTrue (value p q) → IsTrue (look q).top) (λ q l v. ap (λ (o : Obligation). o.top) (placed q l)) q;
    down = λ p q i. each (λ q. IsTrue (look q).bottom → IsTrue (value p q)) (λ q l v.
        value-at p q ∙ (means p q i l).1 (led-below p q i (sym (ap (λ (o : Obligation). o.bottom) (placed q l)) ∙ v))) q;
  }

  score : Scored c n top bottom offset high look
  score = split-score c n top bottom offset mid high look old begins follows (block c n top bottom course offset mid high many size begins look old.value true kind owing ends)

  score-is : (p q : ℕ) → score.value p q ≡ given bad p q
  unfolding score
  score-is p q =
      split-value c n top bottom offset mid high look old begins follows (block c n top bottom course offset mid high many size begins look old.value true kind owing ends) p q
      ∙ ap (λ (v : Truth). below_or mid q (old.value p q) v) (block-value c n top bottom course offset mid high many size begins look old.value true kind owing ends p q)

  starts : (p : ℕ) → p < n → IsTrue (met_at c (suffix_obligation states mid false a.start (entry (nfa_of r))) score.value p) ↔ Sat (read_from c p) (Suffix r f) None
  starts p l = subst (λ (v : Truth). IsTrue v ↔ Sat (read_from c p) (Suffix r f) None) (sym same)
      (iff-trans (means p (start_of r) l (start-below r h)) (follows-suffix states c r h f p refl))
    where
      same : met_at c (suffix_obligation states mid false a.start (entry (nfa_of r))) score.value p ≡ not (bad p (start_of r))
      same =
          ap (λ (es : List Edge). met (suffix_obligation states mid true a.start es).delta (c.letter p) (λ q. score.value (c.next p) q)) (entry-is r)
          ∙ met-same offset high (suffix_obligation states mid true a.start (state_at states (start_of r)).edges).delta (over-within (state_at states (start_of r)).edges (nfa-below r h (start_of r)))
          (c.letter p) (λ q. score.value (c.next p) q) (λ q. given bad (c.next p) q) (λ q x y. score-is (c.next p) q)
          ∙ sym (bad-step p (start_of r) l (start-below r h))

  pub suffix-scored : ScoredPart c n top bottom offset (suffix_part offset (nfa_of r) a) (Suffix r f)
  suffix-scored = record { score = score; starts = starts }

pub suffix-score : (offset : ℕ) (r : Sequence) → HasNoClock r → (a : Part) (f : Formula) → IsPartOf offset a f → IsPlain f → IsScored offset a f
    → IsScored offset (suffix_part offset (nfa_of r) a) (Suffix r f)
suffix-score offset r h a f is plain scored c n top bottom course = suffix-scored offset r h a f is plain c n top bottom course (scored c n top bottom course)
