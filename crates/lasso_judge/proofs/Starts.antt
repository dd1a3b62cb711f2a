-- The tables of sequences, from the cells of their automata.
use Rattle.std.proofs.Common.{◌≡◌, ◌↔◌, inl, inr, sym, ap, ◌∙◌, subst, ℕ, suc, ◌+◌, ◌-◌, ◌<◌, Bool as Truth, true, List, [], ◌∷◌, ◌++◌, length, map, None, arith}
use Rattle.std.specs.Prelude.{IsTrue, not, slice_index}
use Rattle.std.proofs.lemmas.Bool.{both_ways, cases_Bool}
use Rattle.std.proofs.lemmas.List.{length-append, length-map}
use Rattle.psl_tree.specs.Clockless.{HasNoClock}
use Rattle.psl_tree.specs.Satisfaction.{Sat}
use Rattle.psl_tree.specs.Trace.{Trace, first, cut}
use Rattle.psl_tree.proofs.Choice.{exists-map}
use Rattle.psl_tree.specs.Trees.{Sequence, Formula, Strong, Weak, Suffix}
use Rattle.psl_tree.specs.declared.letter.Letter.{Letter}
use Rattle.psl_tree.specs.declared.letter.Word.{Word}
use Rattle.psl_tree.specs.SequenceAutomata.{State, Automaton, AcceptsFrom}
use Rattle.psl_tree.specs.SequenceConstruction.{nfa_of, part_of, Draft, shown}
use Rattle.alternating_theory.specs.Courses.{Course, walk, read_from}
use Rattle.alternating_theory.proofs.Cells.{start_of, Hits, Follows as FollowsFrom, hits-strong, follows-suffix, lasts-weak}
use Rattle.alternating_theory.proofs.Walks.{walk-below}
use Rattle.lasso_judge.specs.Cells.{cell_of, HitsFrom, LastsFrom, AreHits, AreFallen}
use Rattle.lasso_judge.specs.Merging.{IsMerged}
use Rattle.lasso_tables.specs.Seen.{course_by, IsWhole}
use Rattle.lasso_tables.specs.Tables.{value_at, Has, Tells}
use Rattle.lasso_judge.proofs.Followed.{opposite-read}
use Rattle.lasso_judge.proofs.Forms.{turned}

last-of : (xs : List State) (x : State) → length (xs ++ x ∷ []) ≡ length xs + 1
last-of xs x = length-append xs (x ∷ [])

-- the initial state is the last one
pub start-last : (r : Sequence) (a : Automaton) → a ≡ nfa_of r → length a.states - 1 ≡ start_of r
start-last r a e = omega (
  arith,
  ap (λ (b : Automaton). length b.states) e,
  last-of (map (λ (s : Draft). shown s) (part_of 0 r).states) (shown (part_of 0 r).start),
  length-map (part_of 0 r).states (λ (s : Draft). shown s),
)

start-below : (r : Sequence) (a : Automaton) → a ≡ nfa_of r → length a.states - 1 < length a.states
start-below r a e = omega (
  arith,
  ap (λ (b : Automaton). length b.states) e,
  last-of (map (λ (s : Draft). shown s) (part_of 0 r).states) (shown (part_of 0 r).start),
)

module _ (word : Word) (flipped : Truth) (next : List ℕ) (whole : IsWhole word next) (r : Sequence) (plain : HasNoClock r) (a : Automaton) (is : a ≡ nfa_of r) (new : List State) (merged : IsMerged a.states new) where
  abbrev course : Course
  course = course_by word flipped next

  abbrev count : ℕ
  count = length next

  abbrev width : ℕ
  width = length a.states

  abbrev start : ℕ
  start = length a.states - 1

  states-are : a.states ≡ (nfa_of r).states
  states-are = ap (λ (b : Automaton). b.states) is

  within : (k p : ℕ) → p < count → walk (λ q. slice_index next q) k p < count
  within k p l = walk-below (λ q. slice_index next q) count whole.below k p l

  -- the start of the merged automaton is that of the sequence's, and the same lists are read from it
  start-new : length new - 1 ≡ length a.states - 1
  start-new = omega (arith, merged.same_length)

  below-new : length new - 1 < length new
  below-new = omega (arith, merged.same_length, start-below r a is)

  there-new : (xs : List Letter) → AcceptsFrom new (length new - 1) xs → AcceptsFrom a.states (length a.states - 1) xs
  there-new xs h = (merged.same_lists xs).0 (subst (λ q. AcceptsFrom new q xs) start-new h)

  back-new : (xs : List Letter) → AcceptsFrom a.states (length a.states - 1) xs → AcceptsFrom new (length new - 1) xs
  back-new xs h = subst (λ q. AcceptsFrom new q xs) (sym start-new) ((merged.same_lists xs).1 h)

  start-hits : (c : Course) (hits cells : List Truth) → AreHits new c count hits cells → (p : ℕ) → p < count
      → IsTrue (value_at cells (cell_of (length new) p (length new - 1))) ↔ HitsFrom a.states c hits p (length a.states - 1)
  start-hits c hits cells are p l =
      let e = are.exact p (length new - 1) l below-new in (
        λ v. exists-map (λ j u. (there-new (first (suc j) (read_from c p)) u.0, u.1)) (e.0 v),
        λ h. e.1 (exists-map (λ j u. (back-new (first (suc j) (read_from c p)) u.0, u.1)) h),
      )

  start-lasts : (c : Course) (cells : List Truth) → AreFallen new c count cells → (p : ℕ) → p < count
      → IsTrue (not (value_at cells (cell_of (length new) p (length new - 1)))) ↔ LastsFrom a.states c p (length a.states - 1)
  start-lasts c cells are p l =
      let e = are.exact p (length new - 1) l below-new in (
        λ v j. exists-map (λ i u. there-new (first (suc i) (cut (read_from c p) (suc j))) u) (e.0 v j),
        λ h. e.1 (λ j. exists-map (λ i u. back-new (first (suc i) (cut (read_from c p) (suc j))) u) (h j)),
      )

  pub strong-tells : (hits cells values : List Truth) → Has count (λ _. true) hits → AreHits new (course_by word flipped next) count hits cells
      → Has count (λ p. value_at cells (cell_of (length new) p (length new - 1))) values → Tells (course_by word flipped next) count (Strong r) values
  strong-tells hits cells values everywhere are s = record {
    same_length = s.same_length;
    exact = λ p l.
        let e = start-hits (course_by word flipped next) hits cells are p l in
        let h = hits-strong a.states (course_by word flipped next) r plain p states-are in (
          λ v. h.0 (subst (λ q. HitsFrom-all p q) (start-last r a is) (exists-map (λ j u. (u.0, tt)) (e.0 (sym (s.each p l) ∙ v)))),
          λ t. s.each p l ∙ e.1 (exists-map (λ j u. (u.0, everywhere.each (walk (λ q. slice_index next q) j p) (within j p l))) (subst (λ q. HitsFrom-all p q) (sym (start-last r a is)) (h.1 t))),
        );
  }
    where
      HitsFrom-all : ℕ → ℕ → Type 0
      HitsFrom-all p q = Hits a.states (course_by word flipped next) (λ _. Unit {0}) p q

  pub weak-tells : (cells fallen values : List Truth) → AreFallen new (course_by word flipped next) count cells
      → Has count (λ p. value_at cells (cell_of (length new) p (length new - 1))) fallen → Has (length fallen) (λ p. not (value_at fallen p)) values
      → Tells (course_by word flipped next) count (Weak r) values
  weak-tells cells fallen values are f s = record {
    same_length = s.same_length ∙ f.same_length;
    exact = λ p l.
        let e = start-lasts (course_by word flipped next) cells are p l in
        let w = lasts-weak a.states (course_by word flipped next) r plain p states-are in
        let v : value_at values p ≡ not (value_at cells (cell_of (length new) p (length new - 1))) =
        s.each p (omega (arith, f.same_length)) ∙ ap (λ (b : Truth). not b) (f.each p l) in (
          λ h. w.0 (subst (λ q. LastsFrom a.states (course_by word flipped next) p q) (start-last r a is) (e.0 (sym v ∙ h))),
          λ t. v ∙ e.1 (subst (λ q. LastsFrom a.states (course_by word flipped next) p q) (sym (start-last r a is)) (w.1 t)),
        );
  }

  pub suffix-tells : (part misses cells missed values : List Truth) → Has (length part) (λ p. not (value_at part p)) misses
      → AreHits new (course_by word (not flipped) next) count misses cells
      → Has count (λ p. value_at cells (cell_of (length new) p (length new - 1))) missed → Has (length missed) (λ p. not (value_at missed p)) values
      → (f : Formula) → Tells (course_by word flipped next) count f part → Tells (course_by word flipped next) count (Suffix r f) values
  suffix-tells part misses cells missed values m are n s f t = record {
    same_length = s.same_length ∙ n.same_length;
    exact = λ p l.
        let e = start-hits (course_by word (not flipped) next) misses cells are p l in
        let w = follows-suffix a.states (course_by word flipped next) r plain f p states-are in
        let u = turned (value_at cells (cell_of (length new) p (length new - 1))) (HitsFrom a.states (course_by word (not flipped) next) misses p (length a.states - 1)) e in
        let v : value_at values p ≡ not (value_at cells (cell_of (length new) p (length new - 1))) =
        s.each p (omega (arith, n.same_length)) ∙ ap (λ (b : Truth). not b) (n.each p l) in (
          λ h. w.0 (subst (λ q. Follows p q) (start-last r a is) (there p l (u.0 (sym v ∙ h)))),
          λ g. v ∙ u.1 (back p l (subst (λ q. Follows p q) (sym (start-last r a is)) (w.1 g))),
        );
  }
    where
      Follows : ℕ → ℕ → Type 0
      Follows p q = FollowsFrom a.states (course_by word flipped next) (λ i. Sat (read_from (course_by word flipped next) i) f None) p q

      miss : (i : ℕ) → i < count → value_at misses i ≡ not (value_at part i)
      miss i l = m.each i (omega (arith, t.same_length))

      there : (p : ℕ) → p < count → (HitsFrom a.states (course_by word (not flipped) next) misses p start → ⊥) → Follows p start
      there p l unhit j h = elim (cases_Bool (value_at part (walk (λ q. slice_index next q) j p))) as (λ _. Sat (read_from (course_by word flipped next) (walk (λ q. slice_index next q) j p)) f None) [
        | inl g ↦ (t.exact (walk (λ q. slice_index next q) j p) (within j p l)).0 g
        | inr g ↦ absurd (unhit (λ none. none j (
          subst (λ (v : Trace). AcceptsFrom a.states (length a.states - 1) (first (suc j) v)) (sym (opposite-read word flipped next p)) h,
          miss (walk (λ q. slice_index next q) j p) (within j p l) ∙ ap (λ (b : Truth). not b) g,
        )))
      ]

      back : (p : ℕ) → p < count → Follows p start → HitsFrom a.states (course_by word (not flipped) next) misses p start → ⊥
      back p l all h = h (λ j u. both_ways (not (value_at part (walk (λ q. slice_index next q) j p)))
          (ap (λ (b : Truth). not b) ((t.exact (walk (λ q. slice_index next q) j p) (within j p l)).1
          (all j (subst (λ (v : Trace). AcceptsFrom a.states (length a.states - 1) (first (suc j) v)) (opposite-read word flipped next p) u.0))))
          (sym (miss (walk (λ q. slice_index next q) j p) (within j p l)) ∙ u.1))

-- the same of equal cells, and of an equal number of states
pub starts-as : (count w v : ℕ) (cells shown values : List Truth) → v ≡ w → shown ≡ cells → Has count (λ p. value_at shown (cell_of v p (v - 1))) values
    → Has count (λ p. value_at cells (cell_of w p (w - 1))) values
starts-as count w v cells shown values e f s = subst (λ (cs : List Truth). Has count (λ p. value_at cs (cell_of w p (w - 1))) values) f
    (subst (λ n. Has count (λ p. value_at shown (cell_of n p (n - 1))) values) e s)
