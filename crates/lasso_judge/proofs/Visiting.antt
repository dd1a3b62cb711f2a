-- Lists of cells that are visited one after the other.
use Rattle.std.proofs.Common.{◌≡◌, refl, sym, ap, ◌∙◌, List, [], ◌∷◌, ◌++◌, ℕ, suc, ◌+◌, ◌-◌, ◌<◌, Bool as Truth, add-one, arith}
use Rattle.std.specs.Prelude.{true, false, if◌then◌else◌, slice_set}
use Rattle.sere_nfa.specs.Marking.{Marking, is_marked, visit, visit_all}
use Rattle.psl_tree.specs.declared.letter.Letter.{Letter}
use Rattle.psl_tree.specs.SequenceAutomata.{State}
use Rattle.lasso_judge.specs.Cells.{numbers_below, counted_from, lasts_at, fall, fall_all}

pub visit_all_append : (m : Marking) (ms ns : List ℕ) → visit_all m (ms ++ ns) ≡ visit_all (visit_all m ms) ns
visit_all_append m [] ns = refl
visit_all_append m (n ∷ ms) ns = visit_all_append (visit m n) ms ns

pub numbers_more : (test : ℕ → Truth) (n : ℕ) → numbers_below test (n + 1) ≡ numbers_below test n ++ (if test n then n ∷ [] else [])
numbers_more test n = rw add-one refl

-- one number more was tested, and visited where it passed
pub visited-more : (none old new : Marking) (test : ℕ → Truth) (n : ℕ) (asked : Truth) → old ≡ visit_all none (numbers_below test n) → asked ≡ test n
    → new ≡ visit_all old (if asked then n ∷ [] else []) → new ≡ visit_all none (numbers_below test (n + 1))
visited-more none old new test n asked e f g =
    g ∙ (ap (λ (m : Marking). visit_all m (if asked then n ∷ [] else [])) e
    ∙ (ap (λ (b : Truth). visit_all (visit_all none (numbers_below test n)) (if b then n ∷ [] else [])) f
    ∙ (sym (visit_all_append none (numbers_below test n) (if test n then n ∷ [] else []))
    ∙ ap (λ (ns : List ℕ). visit_all none ns) (sym (numbers_more test n)))))

counted-step : (i n : ℕ) → i < n → counted_from i (n - i) ≡ i ∷ counted_from (i + 1) (n - (i + 1))
counted-step i n l =
    let e : n - i ≡ suc (n - (i + 1)) = omega arith in
    let f : suc i ≡ i + 1 = omega arith in
    ap (λ k. counted_from i k) e ∙ ap (λ k. i ∷ counted_from k (n - (i + 1))) f

-- one cell more was looked at
pub fallen-more : (states : List State) (letter : ℕ → Letter) (next : List ℕ) (i n : ℕ) (old new whole : Marking) → i < n
    → fall_all states letter next old (counted_from i (n - i)) ≡ whole → new ≡ fall states letter next old i
    → fall_all states letter next new (counted_from (i + 1) (n - (i + 1))) ≡ whole
fallen-more states letter next i n old new whole l e made =
    ap (λ (m : Marking). fall_all states letter next m (counted_from (i + 1) (n - (i + 1)))) made
    ∙ (ap (λ (ns : List ℕ). fall_all states letter next old ns) (sym (counted-step i n l)) ∙ e)

-- a cell that fell is not looked at again
pub fall_marked : (states : List State) (letter : ℕ → Letter) (next : List ℕ) (m : Marking) (cell : ℕ) → is_marked m.marks cell ≡ true → m ≡ fall states letter next m cell
fall_marked states letter next m cell e = at (lasts_at states letter next m.marks cell)
  where
    at : (b : Truth) → m ≡ (if b then m else visit m cell)
    at true = refl
    at false = sym (ap (λ (t : Truth). if t then m else record { marks = slice_set m.marks cell true; waiting = m.waiting ++ cell ∷ [] }) e)
