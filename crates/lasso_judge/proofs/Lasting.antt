-- The search for the cells from which the sequence does not last is exact.
use Rattle.std.proofs.Common.{◌≡◌, ◌⊎◌, ◌↔◌, inl, inr, refl, sym, ap, ◌∙◌, subst, ℕ, zero, suc, ◌+◌, ◌*◌, ◌/◌, ◌%◌, ◌≤◌, ◌<◌, Bool as Truth, true, false, List, [], ◌∷◌, ◌++◌, length, replicate, Some, arith}
use Rattle.std.specs.Prelude.{IsTrue, ◌&&◌, ◌||◌, not, nat_lt, slice_index, if◌then◌else◌}
use Rattle.std.proofs.lemmas.Bool.{both_ways, and_parts, or_cases, or_left, or_right, cases_Bool, cases_eq, lt-ltb, ltb-true}
use Rattle.std.proofs.lemmas.List.{length-append}
use Rattle.std.proofs.lemmas.Nat.{same_from_place, div-mul-add, mod-mul-add, mod_below}
use Rattle.psl_tree.specs.declared.letter.Letter.{Letter}
use Rattle.psl_tree.specs.declared.letter.Letter.TheVariants.{Top}
use Rattle.psl_tree.specs.declared.letter.Word.{Word}
use Rattle.psl_tree.specs.Classical.{Exists}
use Rattle.psl_tree.specs.Followed.{Tops, followed}
use Rattle.psl_tree.specs.Trace.{Trace, first, cut}
use Rattle.psl_tree.proofs.Choice.{from-exists}
use Rattle.psl_tree.specs.SequenceAutomata.{State, state_at, AcceptsFrom, ReachesEnd}
use Rattle.sere_nfa.specs.Marking.{Marking, is_marked, visit}
use Rattle.sere_nfa.proofs.Reach.{Member, Visits, visits-all, EachBelow, work}
use Rattle.psl_tree.proofs.SequenceSteps.{StepTo}
use Rattle.alternating_theory.specs.Courses.{walk, read_from}
use Rattle.alternating_theory.proofs.Cells.{lasts-most, lasts-falls}
use Rattle.alternating_theory.proofs.Raised.{EachMore, accepts-more, first-more, below-tops, cut-letter, cut-letters}
use Rattle.lasso_judge.specs.Arrows.{arrows_below}
use Rattle.lasso_judge.specs.Cells.{cell_of, LastsFrom, AreFallen, goes_on, lasts_at, fall, fall_all, counted_from, IsFirstFallen}
use Rattle.lasso_tables.specs.Seen.{seen_at, course_by}
use Rattle.lasso_tables.specs.Tables.{value_at}
use Rattle.lasso_judge.specs.declared.chart.Arrow.{Arrow}
use Rattle.lasso_judge.proofs.Cellular.{cell-below, cell-is, marked-below}
use Rattle.lasso_judge.proofs.Drawn.{member-there, member-left, member-right}
use Rattle.lasso_judge.proofs.Edges.{both-true, any-step, step-any, before_cell, before-back}

-- a prefix that is read over a cut is read over Top for ever, letter by letter
first-tops : (n : ℕ) → first n (followed [] Tops) ≡ replicate n Top
first-tops zero = refl
first-tops (suc n) = ap (λ (l : List Letter). Top ∷ l) (first-tops n)

counted-member : (y n s : ℕ) → s ≤ y → y < s + n → Member y (counted_from s n)
counted-member y zero s h l = absurd (omega arith)
counted-member y (suc n) s h l = elim (cases_eq y s) as (λ _. Member y (s ∷ counted_from (suc s) n)) [
  | inl e ↦ inl e
  | inr d ↦ inr (counted-member y n (suc s) (omega arith) (omega arith))
]

counted-below : (n s m : ℕ) → s + n ≤ m → EachBelow m (counted_from s n)
counted-below zero s m h = tt
counted-below (suc n) s m h = (omega arith, counted-below n (suc s) m (omega arith))

module _ (word : Word) (flipped : Truth) (next : List ℕ) (states : List State) where
  abbrev pub width : ℕ
  width = length states

  abbrev pub count : ℕ
  count = length next

  abbrev pub To : ℕ → ℕ → ℕ → Type 0
  To p q t = StepTo (state_at states q).edges (seen_at word flipped p) t

  abbrev pub Lasts : ℕ → ℕ → Type 0
  Lasts p q = LastsFrom states (course_by word flipped next) p q

  -- a state from which the sequence lasts reaches an end
  lasts-alive : (p q : ℕ) → Lasts p q → (b : Truth) → IsTrue b ↔ ReachesEnd states q → IsTrue b
  lasts-alive p q h b s = from-exists b (h 0) (λ i a. s.1 (
    suc i,
    subst (λ (l : List Letter). AcceptsFrom states q l) (first-tops (suc i))
        (accepts-more states (first (suc i) (cut (read_from (course_by word flipped next) p) 1)) (first (suc i) (followed [] Tops))
        (subst (λ (v : Trace). EachMore (first (suc i) v) (first (suc i) (followed [] Tops)))
        (sym (cut-letters (λ k. seen_at word flipped (walk (λ j. slice_index next j) k p)) 1))
        (first-more (suc i) (λ k. Some (cut-letter (λ k. seen_at word flipped (walk (λ j. slice_index next j) k p)) 1 k)) (followed [] Tops)
        (below-tops (cut-letter (λ k. seen_at word flipped (walk (λ j. slice_index next j) k p)) 1)))) q a),
  ))

  -- an unmarked cell goes on: to an end, or to a cell that is not marked, or that waits
  abbrev pub GoesOn : Marking → ℕ → ℕ → Type 0
  GoesOn m p q = (t : ℕ) × To p q t × (IsTrue (state_at states t).is_final
      ⊎ ((is_marked m.marks (cell_of width (slice_index next p) t) ≡ false) ⊎ Member (cell_of width (slice_index next p) t) m.waiting))

  -- marked cells do not last; other cells are alive and go on, or are still to be looked at
  pub record IsFallSearch (todo : List ℕ) (m : Marking) : Type 0 where
    pub same_length : length m.marks ≡ count * width
    pub sound : (p q : ℕ) → p < count → q < width → IsTrue (is_marked m.marks (cell_of width p q)) → Lasts p q → ⊥
    pub alive : (p q : ℕ) → p < count → q < width → is_marked m.marks (cell_of width p q) ≡ false → ReachesEnd states q
    pub goes : (p q : ℕ) → p < count → q < width → (IsTrue (is_marked m.marks (cell_of width p q)) ⊎ Member (cell_of width p q) todo) ⊎ GoesOn m p q
    pub wait_marked : (y : ℕ) → Member y m.waiting → IsTrue (is_marked m.marks y)

  module _ (within : (p : ℕ) → p < length next → slice_index next p < length next)
      (targets : (q : ℕ) (x : Letter) (t : ℕ) → StepTo (state_at states q).edges x t → t < length states) where
    -- what the test says of a cell
    test-is : (marks : List Truth) (p q : ℕ) → q < width → lasts_at states (λ i. seen_at word flipped i) next marks (cell_of width p q)
        ≡ goes_on states (seen_at word flipped p) marks (slice_index next p * width) (state_at states q).edges
    test-is marks p q l =
        let place : cell_of width p q / width ≡ p = div-mul-add p width q l in
        let state : cell_of width p q % width ≡ q = mod-mul-add p width q l in
        ap (λ i. goes_on states (seen_at word flipped i) marks (slice_index next i * width) (state_at states (cell_of width p q % width)).edges) place
        ∙ ap (λ i. goes_on states (seen_at word flipped p) marks (slice_index next p * width) (state_at states i).edges) state

    unmarked : (b : Truth) → IsTrue (not b) → b ≡ false
    unmarked true h = absurd (both_ways false refl h)
    unmarked false h = refl

    not-true : (b : Truth) → b ≡ false → IsTrue (not b)
    not-true true h = absurd (both_ways true h refl)
    not-true false h = refl

    -- a cell that goes on
    goes-there : (m : Marking) (p q : ℕ) → q < width → lasts_at states (λ i. seen_at word flipped i) next m.marks (cell_of width p q) ≡ true → GoesOn m p q
    goes-there m p q l e =
        let r = any-step (state_at states q).edges (seen_at word flipped p) (λ t. (state_at states t).is_final || not (value_at m.marks (slice_index next p * width + t))) (sym (test-is m.marks p q l) ∙ e) in (
          r.0,
          r.1,
          elim (or_cases (state_at states r.0).is_final (not (value_at m.marks (slice_index next p * width + r.0))) r.2)
              as (λ _. IsTrue (state_at states r.0).is_final ⊎ ((is_marked m.marks (cell_of width (slice_index next p) r.0) ≡ false) ⊎ Member (cell_of width (slice_index next p) r.0) m.waiting)) [
                | inl f ↦ inl f
                | inr n ↦ inr (inl (unmarked (is_marked m.marks (cell_of width (slice_index next p) r.0)) n))
              ],
        )

    -- a cell that does not go on does not last
    falls-there : (todo : List ℕ) (m : Marking) → IsFallSearch todo m → (p q : ℕ) → p < count → q < width
        → lasts_at states (λ i. seen_at word flipped i) next m.marks (cell_of width p q) ≡ false → Lasts p q → ⊥
    falls-there todo m s p q l k e h = lasts-falls states (course_by word flipped next) p q
        (λ t d f. both_ways (lasts_at states (λ i. seen_at word flipped i) next m.marks (cell_of width p q)) e (test-is m.marks p q k
        ∙ step-any (state_at states q).edges (seen_at word flipped p) (λ t. (state_at states t).is_final || not (value_at m.marks (slice_index next p * width + t))) t d
        (or_left (state_at states t).is_final (not (value_at m.marks (slice_index next p * width + t))) f)))
        (λ t d g. s.sound (slice_index next p) t (within p l) (targets q (seen_at word flipped p) t d) (marked t d) g)
        h
      where
        marked : (t : ℕ) → To p q t → IsTrue (is_marked m.marks (cell_of width (slice_index next p) t))
        marked t d = elim (cases_Bool (is_marked m.marks (cell_of width (slice_index next p) t))) as (λ _. IsTrue (is_marked m.marks (cell_of width (slice_index next p) t))) [
          | inl a ↦ a
          | inr n ↦ absurd (both_ways (lasts_at states (λ i. seen_at word flipped i) next m.marks (cell_of width p q)) e (test-is m.marks p q k
              ∙ step-any (state_at states q).edges (seen_at word flipped p) (λ t. (state_at states t).is_final || not (value_at m.marks (slice_index next p * width + t))) t d
              (or_right (state_at states t).is_final (not (value_at m.marks (slice_index next p * width + t))) (not-true (is_marked m.marks (cell_of width (slice_index next p) t)) n))))
        ]

    -- one cell is looked at
    one : (y : ℕ) (todo : List ℕ) (m : Marking) (b : Truth) → y < count * width → IsFallSearch (y ∷ todo) m
        → lasts_at states (λ i. seen_at word flipped i) next m.marks y ≡ b → IsFallSearch todo (if b then m else visit m y)
    one y todo m true l s e = record {
      same_length = s.same_length;
      sound = s.sound;
      alive = s.alive;
      goes = λ p q i j. elim (s.goes p q i j) as (λ _. (IsTrue (is_marked m.marks (cell_of width p q)) ⊎ Member (cell_of width p q) todo) ⊎ GoesOn m p q) [
        | inr g ↦ inr g
        | inl a ↦ elim a as (λ _. (IsTrue (is_marked m.marks (cell_of width p q)) ⊎ Member (cell_of width p q) todo) ⊎ GoesOn m p q) [
          | inl k ↦ inl (inl k)
          | inr k ↦ elim k as (λ _. (IsTrue (is_marked m.marks (cell_of width p q)) ⊎ Member (cell_of width p q) todo) ⊎ GoesOn m p q) [
            | inl same ↦ inr (goes-there m p q j (ap (λ n. lasts_at states (λ i. seen_at word flipped i) next m.marks n) same ∙ e))
            | inr r ↦ inl (inr r)
          ]
        ]
      ];
      wait_marked = s.wait_marked;
    }
    one y todo m false l s e = record {
      same_length = v.same_length ∙ s.same_length;
      sound = λ p q i j h. elim (v.marks_only (cell_of width p q) h) as (λ _. Lasts p q → ⊥) [
        | inl k ↦ s.sound p q i j k
        | inr k ↦ elim k as (λ _. Lasts p q → ⊥) [
          | inl same ↦ falls-there (y ∷ todo) m s p q i j (ap (λ n. lasts_at states (λ i. seen_at word flipped i) next m.marks n) same ∙ e)
          | inr z ↦ absurd z
        ]
      ];
      alive = λ p q i j h. s.alive p q i j (still (cell_of width p q) h);
      goes = λ p q i j. elim (s.goes p q i j) as (λ _. (IsTrue (is_marked new.marks (cell_of width p q)) ⊎ Member (cell_of width p q) todo) ⊎ GoesOn new p q) [
        | inr g ↦ inr (
          g.0,
          g.1,
          elim g.2 as (λ _. IsTrue (state_at states g.0).is_final
              ⊎ ((is_marked new.marks (cell_of width (slice_index next p) g.0) ≡ false) ⊎ Member (cell_of width (slice_index next p) g.0) new.waiting)) [
                | inl f ↦ inl f
                | inr a ↦ inr (elim a as (λ _. (is_marked new.marks (cell_of width (slice_index next p) g.0) ≡ false) ⊎ Member (cell_of width (slice_index next p) g.0) new.waiting) [
                  | inl n ↦ later (cell_of width (slice_index next p) g.0) n
                  | inr w ↦ inr (v.still_wait (cell_of width (slice_index next p) g.0) w)
                ])
              ],
        )
        | inl a ↦ elim a as (λ _. (IsTrue (is_marked new.marks (cell_of width p q)) ⊎ Member (cell_of width p q) todo) ⊎ GoesOn new p q) [
          | inl k ↦ inl (inl (v.stay (cell_of width p q) k))
          | inr k ↦ elim k as (λ _. (IsTrue (is_marked new.marks (cell_of width p q)) ⊎ Member (cell_of width p q) todo) ⊎ GoesOn new p q) [
            | inl same ↦ inl (inl (v.marks_all (cell_of width p q) (inl same)))
            | inr r ↦ inl (inr r)
          ]
        ]
      ];
      wait_marked = λ j h. elim (v.wait_only j h) as (λ _. IsTrue (is_marked new.marks j)) [
        | inl k ↦ v.stay j (s.wait_marked j k)
        | inr k ↦ v.marks_all j k
      ];
    } where
      new : Marking
      new = visit m y

      v : Visits m (visit m y) (y ∷ [])
      v = visits-all m (y ∷ []) (omega (arith, s.same_length), tt)

      still : (j : ℕ) → is_marked (visit m y).marks j ≡ false → is_marked m.marks j ≡ false
      still j h = elim (cases_Bool (is_marked m.marks j)) as (λ _. is_marked m.marks j ≡ false) [
        | inl a ↦ absurd (both_ways (is_marked (visit m y).marks j) h (v.stay j a))
        | inr n ↦ n
      ]

      later : (j : ℕ) → is_marked m.marks j ≡ false → (is_marked (visit m y).marks j ≡ false) ⊎ Member j (visit m y).waiting
      later j n = elim (cases_Bool (is_marked (visit m y).marks j)) as (λ _. (is_marked (visit m y).marks j ≡ false) ⊎ Member j (visit m y).waiting) [
        | inr a ↦ inl a
        | inl a ↦ elim (v.new_wait j a) as (λ _. (is_marked (visit m y).marks j ≡ false) ⊎ Member j (visit m y).waiting) [
          | inl k ↦ absurd (both_ways (is_marked m.marks j) n k)
          | inr k ↦ inr k
        ]
      ]

    -- the work that is left does not grow
    one-work : (y : ℕ) (m : Marking) (b : Truth) → y < length m.marks → work (if b then m else visit m y) ≡ work m
    one-work y m true l = refl
    one-work y m false l = (visits-all m (y ∷ []) (l, tt)).same_work

    one-length : (y : ℕ) (m : Marking) (b : Truth) → y < length m.marks → length (if b then m else visit m y).marks ≡ length m.marks
    one-length y m true l = refl
    one-length y m false l = (visits-all m (y ∷ []) (l, tt)).same_length

    all : (ys : List ℕ) (m : Marking) → EachBelow (count * width) ys → IsFallSearch ys m
        → IsFallSearch [] (fall_all states (λ i. seen_at word flipped i) next m ys) × (work (fall_all states (λ i. seen_at word flipped i) next m ys) ≡ work m)
    all [] m h s = (s, refl)
    all (y ∷ ys) m h s =
        let b = lasts_at states (λ i. seen_at word flipped i) next m.marks y in
        let n = fall states (λ i. seen_at word flipped i) next m y in
        let r = all ys (fall states (λ i. seen_at word flipped i) next m y) h.1 (one y ys m (lasts_at states (λ i. seen_at word flipped i) next m.marks y) h.0 s refl) in
        (r.0, r.1 ∙ one-work y m (lasts_at states (λ i. seen_at word flipped i) next m.marks y) (omega (arith, h.0, s.same_length)))

    -- the search begins with the cells of dead states
    pub begun-search : (m : Marking) (cells : ℕ) → cells ≡ count * width → IsFirstFallen states (λ i. seen_at word flipped i) next cells m → IsFallSearch [] m
    begun-search m cells e s =
        let dead = s.are_dead in
        let start : Marking = record { marks = s.dead; waiting = [] } in
        let begun : IsFallSearch (counted_from 0 cells) (record { marks = s.dead; waiting = [] }) = record {
          same_length = dead.same_length ∙ e;
          sound = λ p q i j h g. dead-falls p q i j h g;
          alive = λ p q i j h. subst (λ n. ReachesEnd states n) (mod-mul-add p width q j) ((dead.exact (cell_of width p q) (inside p q i j)).0 (not-true (is_marked s.dead (cell_of width p q)) h));
          goes = λ p q i j. inl (inr (counted-member (cell_of width p q) cells 0 (omega arith) (let b = inside p q i j in omega arith)));
          wait_marked = λ y h. absurd h;
        } in
        subst (λ (n : Marking). IsFallSearch [] n) (sym s.falls) (all (counted_from 0 cells) (record { marks = s.dead; waiting = [] }) (counted-below cells 0 (count * width) (omega arith)) begun).0
      where
        inside : (p q : ℕ) → p < count → q < width → cell_of width p q < cells
        inside p q i j = subst (λ n. cell_of width p q < n) (sym e) (cell-below count width p q i j)

        dead-falls : (p q : ℕ) → p < count → q < width → IsTrue (is_marked s.dead (cell_of width p q)) → Lasts p q → ⊥
        dead-falls p q i j h g =
            let exact = s.are_dead.exact (cell_of width p q) (inside p q i j) in
            let state : cell_of width p q % width ≡ q = mod-mul-add p width q j in
            let living = lasts-alive p q g (not (is_marked s.dead (cell_of width p q)))
            (λ a. subst (λ n. ReachesEnd states n) state (exact.0 a), λ a. exact.1 (subst (λ n. ReachesEnd states n) (sym state) a)) in
            both_ways (is_marked s.dead (cell_of width p q)) (unmarked (is_marked s.dead (cell_of width p q)) living) h

    -- once none waits, the marks are exact
    pub ended-search : (m : Marking) → IsFallSearch [] m → m.waiting ≡ [] → AreFallen states (course_by word flipped next) count m.marks
    ended-search m s e = record {
      same_length = s.same_length;
      exact = λ p q l k. (
        λ h. lasts-most states (course_by word flipped next) count within (λ i j. not (is_marked m.marks (cell_of width i j)) && small j) step p q l (both p q k h),
        λ h. elim (cases_Bool (is_marked m.marks (cell_of width p q))) as (λ _. IsTrue (not (is_marked m.marks (cell_of width p q)))) [
          | inl a ↦ absurd (s.sound p q l k a h)
          | inr n ↦ not-true (is_marked m.marks (cell_of width p q)) n
        ],
      );
    } where
      small : ℕ → Truth
      small j = nat_lt j width

      both : (p q : ℕ) → q < width → IsTrue (not (is_marked m.marks (cell_of width p q))) → IsTrue (not (is_marked m.marks (cell_of width p q)) && small q)
      both p q l h = both-true (not (is_marked m.marks (cell_of width p q))) (small q) h (lt-ltb q width l)

      Next : ℕ → ℕ → ℕ → Type 0
      Next i j t = IsTrue (state_at states t).is_final ⊎ (Exists (λ k. AcceptsFrom states t (first (suc k) (followed [] Tops))) × IsTrue (not (is_marked m.marks (cell_of width (slice_index next i) t)) && small t))

      reads : (t : ℕ) → (state_at states t).is_final ≡ false → ReachesEnd states t → Exists (λ k. AcceptsFrom states t (first (suc k) (followed [] Tops)))
      reads t f (zero, a) = absurd (both_ways (state_at states t).is_final f a)
      reads t f (suc k, a) = λ none. none k (subst (λ (l : List Letter). AcceptsFrom states t l) (sym (first-tops (suc k))) a)

      follows : (i j t : ℕ) → i < count → To i j t → is_marked m.marks (cell_of width (slice_index next i) t) ≡ false → Next i j t
      follows i j t l d n = elim (cases_Bool (state_at states t).is_final) as (λ _. Next i j t) [
        | inl f ↦ inl f
        | inr f ↦ (let k = targets j (seen_at word flipped i) t d in
            inr (reads t f (s.alive (slice_index next i) t (within i l) k n), both (slice_index next i) t k (not-true (is_marked m.marks (cell_of width (slice_index next i) t)) n)))
      ]

      step : (i j : ℕ) → i < count → IsTrue (not (is_marked m.marks (cell_of width i j)) && small j) → (t : ℕ) × To i j t × Next i j t
      step i j l h =
          let parts = and_parts (not (is_marked m.marks (cell_of width i j))) (small j) h in
          elim (s.goes i j l (ltb-true j width parts.1)) as (λ _. (t : ℕ) × To i j t × Next i j t) [
            | inl a ↦ elim a as (λ _. (t : ℕ) × To i j t × Next i j t) [
              | inl k ↦ absurd (both_ways (is_marked m.marks (cell_of width i j)) (unmarked (is_marked m.marks (cell_of width i j)) parts.0) k)
              | inr z ↦ absurd z
            ]
            | inr g ↦ (
              g.0,
              g.1,
              elim g.2 as (λ _. Next i j g.0) [
                | inl f ↦ inl f
                | inr a ↦ elim a as (λ _. Next i j g.0) [
                  | inl n ↦ follows i j g.0 l g.1 n
                  | inr w ↦ absurd (subst (λ (ws : List ℕ). Member (cell_of width (slice_index next i) g.0) ws) e w)
                ]
              ],
            )
          ]

    -- the cells before one that waited are looked at: the search goes on, with less to do
    pub more-search : (arrows : List Arrow) (is : arrows ≡ arrows_below states (length states)) (m : Marking) (waiting : List ℕ) (x : ℕ) (found : List ℕ) (new : Marking)
        → x < count * width → 0 < width → IsFallSearch [] m → m.waiting ≡ waiting ++ x ∷ []
        → found ≡ before_cell states (λ i. seen_at word flipped i) arrows is next (x / width) (x % width)
        → EachBelow (count * width) found
        → new ≡ fall_all states (λ i. seen_at word flipped i) next (record { marks = m.marks; waiting = waiting }) found
        → IsFallSearch [] new × (work new < work m)
    more-search arrows is m waiting x found new below some s e f each made =
        let popped : IsFallSearch found (record { marks = m.marks; waiting = waiting }) = record {
          same_length = s.same_length;
          sound = s.sound;
          alive = s.alive;
          goes = λ p q i j. elim (s.goes p q i j) as (λ _. (IsTrue (is_marked m.marks (cell_of width p q)) ⊎ Member (cell_of width p q) found) ⊎ GoesOn (record { marks = m.marks; waiting = waiting }) p q) [
            | inl a ↦ elim a as (λ _. (IsTrue (is_marked m.marks (cell_of width p q)) ⊎ Member (cell_of width p q) found) ⊎ GoesOn (record { marks = m.marks; waiting = waiting }) p q) [
              | inl k ↦ inl (inl k)
              | inr z ↦ absurd z
            ]
            | inr g ↦ still p q i g
          ];
          wait_marked = λ y h. s.wait_marked y (subst (λ (w : List ℕ). Member y w) (sym e) (member-left y waiting (x ∷ []) h));
        } in
        let r = all found (record { marks = m.marks; waiting = waiting }) each popped in
        let longer : length m.waiting ≡ length waiting + 1 = ap (λ (l : List ℕ). length l) e ∙ length-append waiting (x ∷ []) in
        (subst (λ (n : Marking). IsFallSearch [] n) (sym made) r.0, omega (arith, ap (λ (n : Marking). work n) made, r.1, longer))
      where
        still : (p q : ℕ) → p < count → GoesOn m p q
            → (IsTrue (is_marked m.marks (cell_of width p q)) ⊎ Member (cell_of width p q) found) ⊎ GoesOn (record { marks = m.marks; waiting = waiting }) p q
        still p q l (t, d, inl h) = inr (t, d, inl h)
        still p q l (t, d, inr (inl h)) = inr (t, d, inr (inl h))
        still p q l (t, d, inr (inr h)) = elim (member-there (cell_of width (slice_index next p) t) waiting (x ∷ []) (subst (λ (w : List ℕ). Member (cell_of width (slice_index next p) t) w) e h))
            as (λ _. (IsTrue (is_marked m.marks (cell_of width p q)) ⊎ Member (cell_of width p q) found) ⊎ GoesOn (record { marks = m.marks; waiting = waiting }) p q) [
              | inl k ↦ inr (t, d, inr (inr k))
              | inr k ↦ elim k as (λ _. (IsTrue (is_marked m.marks (cell_of width p q)) ⊎ Member (cell_of width p q) found) ⊎ GoesOn (record { marks = m.marks; waiting = waiting }) p q) [
                | inr z ↦ absurd z
                | inl same ↦ (let places = same_from_place (slice_index next p) t (x / width) (x % width) width (targets q (seen_at word flipped p) t d) (mod_below x width some) (same ∙ cell-is width x) in
                    inl (inr (subst (λ (ns : List ℕ). Member (cell_of width p q) ns) (sym f)
                    (before-back states (λ i. seen_at word flipped i) arrows is next (x / width) (x % width) p q l places.0 (subst (λ i. To p q i) places.1 d)))))
              ]
            ]

    pub waiting-below : (m : Marking) (waiting : List ℕ) (x : ℕ) (cells : ℕ) → cells ≡ count * width → IsFallSearch [] m → m.waiting ≡ waiting ++ x ∷ [] → x < cells
    waiting-below m waiting x cells c s e =
        let marked = s.wait_marked x (subst (λ (l : List ℕ). Member x l) (sym e) (member-right x waiting (x ∷ []) (inl refl))) in
        let b = marked-below m.marks x marked in omega (arith, b, s.same_length, c)
