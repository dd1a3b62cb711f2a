-- The marks of a row that are left, and the first of them.
use Rattle.std.proofs.Common.{◌≡◌, ℕ, zero, suc, ◌+◌, ◌<◌, ℤ, neg_ℤ, List, [], ◌∷◌, ◌++◌, map, length, drop, get_or, Some, None, refl, sym, ap, ◌∙◌, arith, add-one}
use Rattle.std.proofs.lemmas.List.{drop_more}
use Rattle.netlist.specs.declared.rows.Mark.{Mark}
use Rattle.netlist.specs.declared.rows.Mark.TheVariants as marks
use Rattle.gates_theory.specs.Terms.{Term}
use Rattle.gates_theory.specs.Terms.Term.{Literal}
use Rattle.run_terms.specs.Tables.{all_of, mark_literals, row_literals}
use Rattle.run_gates.specs.Marks.{marked}

pub row-drop : (place : ℕ → ℤ) (row : List Mark) (inputs : List ℕ) (i : ℕ) → i < length row → length row ≡ length inputs
    → row_literals (drop i row) (map place (drop i inputs))
    ≡ mark_literals (get_or row i marks.Zero) (place (get_or inputs i 0)) ++ row_literals (drop (i + 1) row) (map place (drop (i + 1) inputs))
row-drop place row inputs i below each = at (i + 1) (add-one i) row inputs below each
  where
    at : (next : ℕ) → next ≡ suc i → (row : List Mark) (inputs : List ℕ) → i < length row → length row ≡ length inputs
        → row_literals (drop i row) (map place (drop i inputs))
        ≡ mark_literals (get_or row i marks.Zero) (place (get_or inputs i 0)) ++ row_literals (drop next row) (map place (drop next inputs))
    at next e row inputs below each =
        by row inputs i below each
        ∙ ap (λ n. mark_literals (get_or row i marks.Zero) (place (get_or inputs i 0)) ++ row_literals (drop n row) (map place (drop n inputs))) (sym e)
      where
        by : (row : List Mark) (inputs : List ℕ) (i : ℕ) → i < length row → length row ≡ length inputs
            → row_literals (drop i row) (map place (drop i inputs))
            ≡ mark_literals (get_or row i marks.Zero) (place (get_or inputs i 0)) ++ row_literals (drop (suc i) row) (map place (drop (suc i) inputs))
        by [] inputs i below each = absurd (omega arith)
        by (mark ∷ row) [] i below each = absurd (omega arith)
        by (mark ∷ row) (input ∷ inputs) zero below each = refl
        by (mark ∷ row) (input ∷ inputs) (suc i) below each = by row inputs i (omega arith) (omega arith)

abbrev terms : List ℤ → List Term
terms literals = map Literal literals

marked_some : (mark : Mark) (literal other : ℤ) → marked mark literal ≡ Some other → mark_literals mark literal ≡ other ∷ []
marked_some marks.Zero literal other e = let same : neg_ℤ literal ≡ other = cc in ap (λ l. l ∷ []) same
marked_some marks.One literal other e = let same : literal ≡ other = cc in ap (λ l. l ∷ []) same
marked_some marks.Any literal other e = absurd (cc)

marked_none : (mark : Mark) (literal : ℤ) → marked mark literal ≡ None → mark_literals mark literal ≡ []
marked_none marks.Zero literal e = absurd (cc)
marked_none marks.One literal e = absurd (cc)
marked_none marks.Any literal e = refl

pub left-some : (place : ℕ → ℤ) (row : List Mark) (inputs : List ℕ) (i : ℕ) (other : ℤ) → i < length row → length row ≡ length inputs
    → marked (get_or row i marks.Zero) (place (get_or inputs i 0)) ≡ Some other
    → terms (row_literals (drop i row) (map place (drop i inputs))) ≡ Literal other ∷ terms (row_literals (drop (i + 1) row) (map place (drop (i + 1) inputs)))
left-some place row inputs i other below each asks =
    ap terms (row-drop place row inputs i below each
    ∙ ap (λ front. front ++ row_literals (drop (i + 1) row) (map place (drop (i + 1) inputs))) (marked_some (get_or row i marks.Zero) (place (get_or inputs i 0)) other asks))

pub left-none : (place : ℕ → ℤ) (row : List Mark) (inputs : List ℕ) (i : ℕ) → i < length row → length row ≡ length inputs
    → marked (get_or row i marks.Zero) (place (get_or inputs i 0)) ≡ None
    → terms (row_literals (drop i row) (map place (drop i inputs))) ≡ terms (row_literals (drop (i + 1) row) (map place (drop (i + 1) inputs)))
left-none place row inputs i below each asks =
    ap terms (row-drop place row inputs i below each
    ∙ ap (λ front. front ++ row_literals (drop (i + 1) row) (map place (drop (i + 1) inputs))) (marked_none (get_or row i marks.Zero) (place (get_or inputs i 0)) asks))

-- the terms of rows
abbrev pub row_terms : List ℤ → List (List Mark) → List Term
row_terms literals rows = map (λ row. all_of (row_literals row literals)) rows

pub rows-drop : (literals : List ℤ) (rows : List (List Mark)) (i : ℕ) → i < length rows
    → row_terms literals (drop i rows) ≡ all_of (row_literals (get_or rows i []) literals) ∷ row_terms literals (drop (i + 1) rows)
rows-drop literals rows i below = ap (row_terms literals) (drop_more rows i [] below)
