-- Edges that were passed, since the sequence does not go on along them: more edges, and more marked cells.
use Rattle.std.proofs.Common.{◌≡◌, inl, inr, refl, sym, ap, ◌∙◌, subst, ℕ, zero, suc, ◌+◌, ◌*◌, ◌/◌, ◌%◌, ◌<◌, Bool as Truth, true, false, List, [], ◌∷◌, length, replicate, arith}
use Rattle.std.specs.Prelude.{IsTrue, ◌&&◌, ◌||◌, not, nat_lt, slice_index, slice_set}
use Rattle.std.specs.List.{list_any}
use Rattle.std.proofs.lemmas.Bool.{both_ways, cases_lt, cases_eq, lt-ltb, le-ltb}
use Rattle.std.proofs.lemmas.List.{get_or-set_same, get_or-set_other, length-set}
use Rattle.psl_tree.specs.Holds.{holds}
use Rattle.psl_tree.specs.declared.letter.Letter.{Letter}
use Rattle.psl_tree.specs.SequenceAutomata.{Edge, State, state_at}
use Rattle.sere_nfa.specs.Marking.{Marking, is_marked, visit}
use Rattle.lasso_judge.specs.Arrows.{edge_at}
use Rattle.lasso_judge.specs.Cells.{goes_along, goes_on, NoneGoes, ArePassed}
use Rattle.lasso_judge.proofs.Fresh.{Stay, visit-stay}

neither : (a b : Truth) → a ≡ false → b ≡ false → (a || b) ≡ false
neither false b e f = f
neither true b e f = e

-- no edge passes a test that none passes by its number
any-none : (test : Edge → Truth) (es : List Edge) → ((n : ℕ) → n < length es → test (edge_at es n) ≡ false) → list_any test es ≡ false
any-none test [] h = refl
any-none test (e ∷ es) h = neither (test e) (list_any test es) (h 0 (omega arith)) (any-none test es (λ n l. h (suc n) (omega arith)))

left : (a b : Truth) → a ≡ true → (a || b) ≡ true
left true b e = refl
left false b e = absurd (both_ways false refl e)

right : (a b : Truth) → b ≡ true → (a || b) ≡ true
right true b e = refl
right false b e = e

any-some : (test : Edge → Truth) (es : List Edge) (n : ℕ) → n < length es → test (edge_at es n) ≡ true → list_any test es ≡ true
any-some test [] n l e = absurd (omega arith)
any-some test (f ∷ es) zero l e = left (test f) (list_any test es) e
any-some test (f ∷ es) (suc n) l e = right (test f) (list_any test es) (any-some test es n (omega arith) e)

-- the test of an edge at which a walk stays, and at which it ends
stays : (a b : Truth) → (a && not b) ≡ true → b ≡ false
stays a false e = refl
stays true true e = absurd (both_ways false refl e)
stays false true e = absurd (both_ways false refl e)

ends : (a b : Truth) → a ≡ true → (a && not b) ≡ false → b ≡ true
ends a true l e = refl
ends true false l e = absurd (both_ways true e refl)
ends false false l e = absurd (both_ways false refl l)

module _ (states : List State) (x : Letter) (marks : List Truth) (first : ℕ) (es : List Edge) where
  abbrev along : Edge → Truth
  along e = goes_along states x marks first e

  -- one edge more is passed
  pub more_passed : (n count : ℕ) → NoneGoes states x marks first es n → (nat_lt n count && not (goes_along states x marks first (edge_at es n))) ≡ true → NoneGoes states x marks first es (n + 1)
  more_passed n count h e k l = elim (cases_lt k n) as (λ _. goes_along states x marks first (edge_at es k) ≡ false) [
    | inl m ↦ h k m
    | inr m ↦ (let same : n ≡ k = omega arith in subst (λ j. goes_along states x marks first (edge_at es j) ≡ false) same (stays (nat_lt n count) (goes_along states x marks first (edge_at es n)) e))
  ]

  -- the walk over the edges ends where the sequence goes on, if it does
  pub passed_ends : (n count : ℕ) → count ≡ length es → NoneGoes states x marks first es n → (nat_lt n count && not (goes_along states x marks first (edge_at es n))) ≡ false → nat_lt n count ≡ goes_on states x marks first es
  passed_ends n count c h e = elim (cases_lt n count) as (λ _. nat_lt n count ≡ goes_on states x marks first es) [
    | inl l ↦ (let m : n < length es = omega (arith, c, l) in
        lt-ltb n count l ∙ sym (any-some (λ e. goes_along states x marks first e) es n m (ends (nat_lt n count) (goes_along states x marks first (edge_at es n)) (lt-ltb n count l) e)))
    | inr l ↦ le-ltb n count l ∙ sym (any-none (λ e. goes_along states x marks first e) es (λ k m. h k (omega (arith, c, l))))
  ]

-- a cell more is marked
grow : (h f m n : Truth) → (IsTrue m → IsTrue n) → (h && (f || not m)) ≡ false → (h && (f || not n)) ≡ false
grow false f m n s e = refl
grow true true m n s e = e
grow true false m true s e = refl
grow true false true false s e = absurd (both_ways false refl (s refl))
grow true false false false s e = e

module _ (states : List State) (letter : ℕ → Letter) (next : List ℕ) (cells : ℕ) where
  pub passed-grow : (marks new : List Truth) (passed : List ℕ) → Stay marks new → ArePassed states letter next cells marks passed → ArePassed states letter next cells new passed
  passed-grow marks new passed s h = record {
    same_length = h.same_length;
    none = λ c l n m. grow (holds (letter (c / length states)) (edge_at (state_at states (c % length states)).edges n).label)
        (state_at states (edge_at (state_at states (c % length states)).edges n).target).is_final
        (is_marked marks (slice_index next (c / length states) * length states + (edge_at (state_at states (c % length states)).edges n).target))
        (is_marked new (slice_index next (c / length states) * length states + (edge_at (state_at states (c % length states)).edges n).target))
        (s (slice_index next (c / length states) * length states + (edge_at (state_at states (c % length states)).edges n).target)) (h.none c l n m);
  }

  pub passed_visit : (old new : Marking) (passed : List ℕ) (cell : ℕ) → cell < length old.marks → new ≡ visit old cell → ArePassed states letter next cells old.marks passed → ArePassed states letter next cells new.marks passed
  passed_visit old new passed cell l e h = passed-grow old.marks new.marks passed (subst (λ (m : Marking). Stay old.marks m.marks) (sym e) (visit-stay old cell l)) h

  -- a cell passes more edges
  pub passed_set : (marks : List Truth) (passed : List ℕ) (cell count : ℕ) → ArePassed states letter next cells marks passed
      → NoneGoes states (letter (cell / length states)) marks (slice_index next (cell / length states) * length states) (state_at states (cell % length states)).edges count
      → cell < cells → ArePassed states letter next cells marks (slice_set passed cell count)
  passed_set marks passed cell count h g l = record {
    same_length = length-set passed cell count ∙ h.same_length;
    none = λ c m. elim (cases_eq c cell) as (λ _. NoneGoes states (letter (c / length states)) marks (slice_index next (c / length states) * length states) (state_at states (c % length states)).edges (slice_index (slice_set passed cell count) c)) [
      | inl e ↦ subst (λ k. NoneGoes states (letter (k / length states)) marks (slice_index next (k / length states) * length states) (state_at states (k % length states)).edges (slice_index (slice_set passed cell count) k)) (sym e)
          (subst (λ j. NoneGoes states (letter (cell / length states)) marks (slice_index next (cell / length states) * length states) (state_at states (cell % length states)).edges j) (sym (get_or-set_same passed cell count 0 (omega (arith, l, h.same_length)))) g)
      | inr d ↦ subst (λ j. NoneGoes states (letter (c / length states)) marks (slice_index next (c / length states) * length states) (state_at states (c % length states)).edges j) (sym (get_or-set_other passed cell c count 0 d)) (h.none c m)
    ];
  }

  -- no edge was passed yet
  length-zeros : (n : ℕ) → length {A = ℕ} (replicate n 0) ≡ n
  length-zeros zero = refl
  length-zeros (suc n) = ap (λ k. suc k) (length-zeros n)

  at-zeros : (n c : ℕ) → slice_index (replicate n 0) c ≡ 0
  at-zeros zero c = refl
  at-zeros (suc n) zero = refl
  at-zeros (suc n) (suc c) = at-zeros n c

  pub passed_none : (marks : List Truth) (passed : List ℕ) → passed ≡ replicate cells 0 → ArePassed states letter next cells marks passed
  passed_none marks passed e = subst (λ (ns : List ℕ). ArePassed states letter next cells marks ns) (sym e) (record {
    same_length = length-zeros cells;
    none = λ c l k m. absurd (omega (arith, m, at-zeros cells c));
  })
