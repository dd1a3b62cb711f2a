-- The search for the cells from which a path leads to an end at a hit is exact.
use Rattle.std.proofs.Common.{◌≡◌, ◌⊎◌, inl, inr, refl, sym, ap, ◌∙◌, subst, ℕ, ◌+◌, ◌*◌, ◌/◌, ◌%◌, ◌<◌, Bool as Truth, false, List, [], ◌∷◌, ◌++◌, length, replicate, arith}
use Rattle.std.specs.Prelude.{IsTrue, ◌&&◌, slice_index}
use Rattle.std.proofs.lemmas.Bool.{and_parts}
use Rattle.std.proofs.lemmas.List.{length-append}
use Rattle.std.proofs.lemmas.Nat.{same_from_place, div-mul-add, mod-mul-add, div_below, mod_below}
use Rattle.psl_tree.specs.declared.letter.Letter.{Letter}
use Rattle.psl_tree.specs.declared.letter.Word.{Word}
use Rattle.psl_tree.specs.SequenceAutomata.{State, state_at}
use Rattle.sere_nfa.specs.Marking.{Marking, is_marked, visit_all}
use Rattle.sere_nfa.proofs.Reach.{Member, Visits, visits-all, EachBelow, work, no-marks}
use Rattle.psl_tree.proofs.SequenceSteps.{StepTo}
use Rattle.alternating_theory.specs.Courses.{Course}
use Rattle.alternating_theory.proofs.Cells.{hits-here, hits-later, hits-least}
use Rattle.lasso_judge.specs.Arrows.{arrows_below}
use Rattle.lasso_judge.specs.Cells.{cell_of, HitsFrom, AreHits, ends_at, ends_on, numbers_below}
use Rattle.lasso_tables.specs.Seen.{seen_at, course_by}
use Rattle.lasso_tables.specs.Tables.{value_at}
use Rattle.lasso_judge.specs.declared.chart.Arrow.{Arrow}
use Rattle.lasso_judge.proofs.Cellular.{cell-below, cell-is, numbers-there, numbers-back, each-member, marked-below, length-replicate}
use Rattle.lasso_judge.proofs.Drawn.{member-there, member-left, member-right}
use Rattle.lasso_judge.proofs.Edges.{both-true, any-step, step-any, step-below, before_cell, before-there, before-back}

module _ (word : Word) (flipped : Truth) (next : List ℕ) (states : List State) (arrows : List Arrow) (hits : List Truth) where
  abbrev pub course : Course
  course = course_by word flipped next

  abbrev pub width : ℕ
  width = length states

  abbrev pub count : ℕ
  count = length next

  abbrev pub To : ℕ → ℕ → ℕ → Type 0
  To p q t = StepTo (state_at states q).edges (seen_at word flipped p) t

  abbrev pub Hit : ℕ → ℕ → Type 0
  Hit p q = HitsFrom states (course_by word flipped next) hits p q

  -- marked cells lead to a hit, and a cell with a step to a marked one is marked, or that one waits
  pub record IsHitSearch (m : Marking) : Type 0 where
    pub same_length : length m.marks ≡ count * width
    pub sound : (p q : ℕ) → p < count → q < width → IsTrue (is_marked m.marks (cell_of width p q)) → Hit p q
    pub closed : (p q t : ℕ) → p < count → To p q t → IsTrue (is_marked m.marks (cell_of width (slice_index next p) t))
        → IsTrue (is_marked m.marks (cell_of width p q)) ⊎ Member (cell_of width (slice_index next p) t) m.waiting
    pub ends : (p q t : ℕ) → p < count → To p q t → IsTrue (state_at states t).is_final → IsTrue (value_at hits p) → IsTrue (is_marked m.marks (cell_of width p q))
    pub wait_marked : (y : ℕ) → Member y m.waiting → IsTrue (is_marked m.marks y)

  module _ (is : arrows ≡ arrows_below states (length states)) (within : (p : ℕ) → p < length next → slice_index next p < length next)
      (targets : (q : ℕ) (x : Letter) (t : ℕ) → StepTo (state_at states q).edges x t → t < length states) where
    abbrev none : Marking
    none = record { marks = replicate (count * width) false; waiting = [] }

    abbrev test : ℕ → Truth
    test cell = ends_at states (λ p. seen_at word flipped p) hits cell

    end-there : (p q : ℕ) → q < width → IsTrue (test (cell_of width p q)) → (t : ℕ) × To p q t × IsTrue (state_at states t).is_final × IsTrue (value_at hits p)
    end-there p q l h =
        let place : cell_of width p q / width ≡ p = div-mul-add p width q l in
        let state : cell_of width p q % width ≡ q = mod-mul-add p width q l in
        let same : IsTrue (value_at hits p && ends_on states (seen_at word flipped p) (state_at states q).edges) =
        subst (λ i. IsTrue (value_at hits i && ends_on states (seen_at word flipped i) (state_at states q).edges)) place
        (subst (λ i. IsTrue (value_at hits (cell_of width p q / width) && ends_on states (seen_at word flipped (cell_of width p q / width)) (state_at states i).edges)) state h) in
        let parts = and_parts (value_at hits p) (ends_on states (seen_at word flipped p) (state_at states q).edges) same in
        let r = any-step (state_at states q).edges (seen_at word flipped p) (λ t. (state_at states t).is_final) parts.1 in
        (r.0, r.1, r.2, parts.0)

    end-back : (p q t : ℕ) → To p q t → IsTrue (state_at states t).is_final → IsTrue (value_at hits p) → IsTrue (test (cell_of width p q))
    end-back p q t s f h =
        let l = step-below states q (seen_at word flipped p) t s in
        let place : cell_of width p q / width ≡ p = div-mul-add p width q l in
        let state : cell_of width p q % width ≡ q = mod-mul-add p width q l in
        subst (λ i. IsTrue (value_at hits (cell_of width p q / width) && ends_on states (seen_at word flipped (cell_of width p q / width)) (state_at states i).edges)) (sym state)
        (subst (λ i. IsTrue (value_at hits i && ends_on states (seen_at word flipped i) (state_at states q).edges)) (sym place)
        (both-true (value_at hits p) (ends_on states (seen_at word flipped p) (state_at states q).edges) h
        (step-any (state_at states q).edges (seen_at word flipped p) (λ t. (state_at states t).is_final) t s f)))

    begun : (m : Marking) → Visits (record { marks = replicate (count * width) false; waiting = [] }) m (numbers_below (λ cell. ends_at states (λ p. seen_at word flipped p) hits cell) (count * width)) → IsHitSearch m
    begun m v = record {
      same_length = v.same_length ∙ length-replicate (count * width);
      sound = λ p q l k h. elim (v.marks_only (cell_of width p q) h) as (λ _. Hit p q) [
        | inl g ↦ absurd (no-marks (count * width) (cell_of width p q) g)
        | inr g ↦ (let e = end-there p q k (numbers-there test (count * width) (cell_of width p q) g).1 in
            hits-here states (course_by word flipped next) (λ i. IsTrue (value_at hits i)) p q e.0 e.1 e.2 e.3)
      ];
      closed = λ p q t l s h. elim (v.new_wait (cell_of width (slice_index next p) t) h)
          as (λ _. IsTrue (is_marked m.marks (cell_of width p q)) ⊎ Member (cell_of width (slice_index next p) t) m.waiting) [
            | inl g ↦ absurd (no-marks (count * width) (cell_of width (slice_index next p) t) g)
            | inr g ↦ inr g
          ];
      ends = λ p q t l s f h. v.marks_all (cell_of width p q) (numbers-back test (count * width) (cell_of width p q)
          (cell-below count width p q l (step-below states q (seen_at word flipped p) t s)) (end-back p q t s f h));
      wait_marked = λ y h. elim (v.wait_only y h) as (λ _. IsTrue (is_marked m.marks y)) [ inl k ↦ absurd k | inr k ↦ v.marks_all y k ];
    }

    -- the cell that waits last
    popped-below : (m : Marking) (waiting : List ℕ) (x : ℕ) → IsHitSearch m → m.waiting ≡ waiting ++ x ∷ [] → x < count * width
    popped-below m waiting x s e =
        let marked = s.wait_marked x (subst (λ (l : List ℕ). Member x l) (sym e) (member-right x waiting (x ∷ []) (inl refl))) in
        let b = marked-below m.marks x marked in omega (arith, b, s.same_length)

    before-below : (P t : ℕ) → EachBelow (count * width) (before_cell states (λ p. seen_at word flipped p) arrows is next P t)
    before-below P t = each-member (count * width) (before_cell states (λ p. seen_at word flipped p) arrows is next P t)
        (λ y h. let r = before-there states (λ p. seen_at word flipped p) arrows is next P t y h in
        let b = cell-below count width r.0 r.1 r.2.place_below r.2.state_below in omega (arith, b, r.2.cell))

    step : (m : Marking) (waiting : List ℕ) (P t : ℕ) (new : Marking) → t < width → IsHitSearch m → m.waiting ≡ waiting ++ cell_of width P t ∷ []
        → Visits (record { marks = m.marks; waiting = waiting }) new (before_cell states (λ p. seen_at word flipped p) arrows is next P t) → P < count
        → IsHitSearch new
    step m waiting P t new small s e v in_count = record {
      same_length = v.same_length ∙ s.same_length;
      sound = λ p q l k h. elim (v.marks_only (cell_of width p q) h) as (λ _. Hit p q) [
        | inl g ↦ s.sound p q l k g
        | inr g ↦ (let r = before-there states (λ p. seen_at word flipped p) arrows is next P t (cell_of width p q) g in
            let same = same_from_place p q r.0 r.1 width k r.2.state_below r.2.cell in
            let leads : slice_index next p ≡ P = ap (λ i. slice_index next i) same.0 ∙ r.2.leads in
            let there : To p q t = subst (λ i. To i q t) (sym same.0) (subst (λ i. To r.0 i t) (sym same.1) r.2.step) in
            hits-later states (course_by word flipped next) (λ i. IsTrue (value_at hits i)) p q t there
            (subst (λ i. Hit i t) (sym leads) (s.sound P t in_count small (s.wait_marked (cell_of width P t) (waited (cell_of width P t) (inr (inl refl)))))))
      ];
      closed = λ p q u l d h. elim (v.new_wait (cell_of width (slice_index next p) u) h)
          as (λ _. IsTrue (is_marked new.marks (cell_of width p q)) ⊎ Member (cell_of width (slice_index next p) u) new.waiting) [
            | inr g ↦ inr g
            | inl g ↦ elim (s.closed p q u l d g) as (λ _. IsTrue (is_marked new.marks (cell_of width p q)) ⊎ Member (cell_of width (slice_index next p) u) new.waiting) [
              | inl a ↦ inl (v.stay (cell_of width p q) a)
              | inr a ↦ elim (member-there (cell_of width (slice_index next p) u) waiting (cell_of width P t ∷ []) (subst (λ (w : List ℕ). Member (cell_of width (slice_index next p) u) w) e a))
                  as (λ _. IsTrue (is_marked new.marks (cell_of width p q)) ⊎ Member (cell_of width (slice_index next p) u) new.waiting) [
                    | inl b ↦ inr (v.still_wait (cell_of width (slice_index next p) u) b)
                    | inr b ↦ inl (v.marks_all (cell_of width p q) (found p q u l d b))
                  ]
            ]
          ];
      ends = λ p q u l d f h. v.stay (cell_of width p q) (s.ends p q u l d f h);
      wait_marked = λ y h. elim (v.wait_only y h) as (λ _. IsTrue (is_marked new.marks y)) [
        | inl k ↦ v.stay y (s.wait_marked y (waited y (inl k)))
        | inr k ↦ v.marks_all y k
      ];
    } where
      waited : (y : ℕ) → Member y waiting ⊎ Member y (cell_of width P t ∷ []) → Member y m.waiting
      waited y (inl h) = subst (λ (w : List ℕ). Member y w) (sym e) (member-left y waiting (cell_of width P t ∷ []) h)
      waited y (inr h) = subst (λ (w : List ℕ). Member y w) (sym e) (member-right y waiting (cell_of width P t ∷ []) h)

      found : (p q u : ℕ) → p < count → To p q u → Member (cell_of width (slice_index next p) u) (cell_of width P t ∷ [])
          → Member (cell_of width p q) (before_cell states (λ p. seen_at word flipped p) arrows is next P t)
      found p q u l d (inr z) = absurd z
      found p q u l d (inl e) =
          let same = same_from_place (slice_index next p) u P t width (targets q (seen_at word flipped p) u d) small e in
          before-back states (λ p. seen_at word flipped p) arrows is next P t p q l same.0 (subst (λ i. To p q i) same.1 d)

    -- the first cells are visited
    pub begun-search : (m : Marking) (cells : ℕ) → cells ≡ count * width
        → m ≡ visit_all (record { marks = replicate cells false; waiting = [] }) (numbers_below (λ cell. ends_at states (λ p. seen_at word flipped p) hits cell) cells) → IsHitSearch m
    begun-search m cells e made =
        let list = numbers_below test (count * width) in
        let v : Visits none (visit_all none (numbers_below test (count * width))) (numbers_below test (count * width)) =
        visits-all none (numbers_below test (count * width)) (subst (λ n. EachBelow n (numbers_below test (count * width))) (sym (length-replicate (count * width)))
        (each-member (count * width) (numbers_below test (count * width)) (λ y h. (numbers-there test (count * width) y h).0))) in
        subst (λ (k : Marking). IsHitSearch k) (sym (made ∙ ap (λ n. visit_all (record { marks = replicate n false; waiting = [] }) (numbers_below test n)) e))
        (begun (visit_all none (numbers_below test (count * width))) v)

    -- the search goes on, with less to do
    pub more-search : (m : Marking) (waiting : List ℕ) (x : ℕ) (found : List ℕ) (new : Marking) → 0 < width → IsHitSearch m → m.waiting ≡ waiting ++ x ∷ []
        → found ≡ before_cell states (λ p. seen_at word flipped p) arrows is next (x / width) (x % width)
        → new ≡ visit_all (record { marks = m.marks; waiting = waiting }) found
        → IsHitSearch new × (work new < work m)
    more-search m waiting x found new some s e f made =
        let below = popped-below m waiting x s e in
        let popped : Marking = record { marks = m.marks; waiting = waiting } in
        let list = before_cell states (λ p. seen_at word flipped p) arrows is next (x / width) (x % width) in
        let each : EachBelow (length m.marks) (before_cell states (λ p. seen_at word flipped p) arrows is next (x / width) (x % width)) =
        subst (λ n. EachBelow n (before_cell states (λ p. seen_at word flipped p) arrows is next (x / width) (x % width))) (sym s.same_length) (before-below (x / width) (x % width)) in
        let v : Visits (record { marks = m.marks; waiting = waiting }) new (before_cell states (λ p. seen_at word flipped p) arrows is next (x / width) (x % width)) =
        subst (λ (n : Marking). Visits (record { marks = m.marks; waiting = waiting }) n (before_cell states (λ p. seen_at word flipped p) arrows is next (x / width) (x % width)))
        (sym (made ∙ ap (λ (ns : List ℕ). visit_all (record { marks = m.marks; waiting = waiting }) ns) f))
        (visits-all (record { marks = m.marks; waiting = waiting }) (before_cell states (λ p. seen_at word flipped p) arrows is next (x / width) (x % width)) each) in
        let longer : length m.waiting ≡ length waiting + 1 = ap (λ (l : List ℕ). length l) e ∙ length-append waiting (x ∷ []) in (
          step m waiting (x / width) (x % width) new (mod_below x width some) s (e ∙ ap (λ j. waiting ++ j ∷ []) (cell-is width x)) v (div_below x width count some below),
          omega (arith, v.same_work, longer),
        )

    -- what is found lies within the cells
    pub found-below : (m : Marking) (x : ℕ) (found : List ℕ) → IsHitSearch m
        → found ≡ before_cell states (λ p. seen_at word flipped p) arrows is next (x / width) (x % width) → EachBelow (length m.marks) found
    found-below m x found s f = subst (λ (ns : List ℕ). EachBelow (length m.marks) ns) (sym f)
        (subst (λ n. EachBelow n (before_cell states (λ p. seen_at word flipped p) arrows is next (x / width) (x % width))) (sym s.same_length) (before-below (x / width) (x % width)))

    pub waiting-below : (m : Marking) (waiting : List ℕ) (x : ℕ) (cells : ℕ) → cells ≡ count * width → IsHitSearch m → m.waiting ≡ waiting ++ x ∷ [] → x < cells
    waiting-below m waiting x cells c s e = subst (λ n. x < n) (sym c) (popped-below m waiting x s e)

    -- once none waits, the marks are exact
    pub ended-search : (m : Marking) → IsHitSearch m → m.waiting ≡ [] → AreHits states (course_by word flipped next) count hits m.marks
    ended-search m s e = record {
      same_length = s.same_length;
      exact = λ p q l k. (
        s.sound p q l k,
        λ h. hits-least states (course_by word flipped next) (λ i. IsTrue (value_at hits i)) count within (λ _. Unit {0}) (λ _ _ _ _. tt)
            (λ i j. is_marked m.marks (cell_of width i j))
            (λ i j t l d f g. s.ends i j t l d f g)
            (λ i j t l d _ g. elim (s.closed i j t l d g) as (λ _. IsTrue (is_marked m.marks (cell_of width i j))) [
              | inl a ↦ a
              | inr a ↦ absurd (subst (λ (w : List ℕ). Member (cell_of width (slice_index next i) t) w) e a)
            ])
            p q l h,
      );
    }
