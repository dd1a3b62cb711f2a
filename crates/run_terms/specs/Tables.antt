-- Tables as terms over the bits of a valuation: a table says nothing where its output has the value that it should have,
-- so each signal has a bit of its own and no table has to come before another.
use Rattle.std.specs.Prelude.{ℕ, ℤ, neg_ℤ, false, true, List, [], ◌∷◌, ◌++◌, map, fold}
use Rattle.gates_theory.specs.Terms.{Term, Literal, Negation, Conjunction, Equality}
use Rattle.netlist.specs.declared.rows.Mark.{Mark}
use Rattle.netlist.specs.declared.rows.Mark.TheVariants as marks
use Rattle.netlist.specs.declared.table.Table.{Table}
use Rattle.run_terms.specs.Booleans.{constant, either, signed}
use Rattle.run_terms.specs.Positions.{had, earlier, current}

-- the literals that a row asks to be true, of the inputs' literals
abbrev pub mark_literals : Mark → ℤ → List ℤ
mark_literals marks.Zero literal = neg_ℤ literal ∷ []
mark_literals marks.One literal = literal ∷ []
mark_literals marks.Any literal = []

abbrev pub row_literals : List Mark → List ℤ → List ℤ
row_literals (mark ∷ marks) (literal ∷ literals) = mark_literals mark literal ++ row_literals marks literals
row_literals _ _ = []

-- all of some literals are true
abbrev pub all_of : List ℤ → Term
all_of [] = constant true
all_of (literal ∷ literals) = fold (λ term other. Conjunction term (Literal other)) (Literal literal) literals

-- one of some terms is true
abbrev pub one_of : List Term → Term
one_of [] = constant false
one_of (term ∷ terms) = fold either term terms

-- some row fits
abbrev pub rows_term : List (List Mark) → List ℤ → Term
rows_term rows literals = one_of (map (λ row. all_of (row_literals row literals)) rows)

-- So it is of a table, and without inputs each row that there is fits: it may have any number of them, and takes one
-- constant.
abbrev pub fits_term : List (List Mark) → List ℤ → Term
fits_term [] literals = constant false
fits_term (row ∷ rows) [] = constant true
fits_term (row ∷ rows) (literal ∷ literals) = rows_term (row ∷ rows) (literal ∷ literals)

-- the output of a table has the value that its rows say, where each signal has a literal
abbrev pub table_term : (ℕ → ℤ) → Table → Term
table_term place table =
    Equality (Literal (place table.output)) (signed table.value (fits_term table.rows (map place table.inputs)))

-- if a literal is true, so is a term
abbrev pub guarded : ℤ → Term → Term
guarded guard term = Negation (Conjunction (Literal guard) (Negation term))

-- the tables agree with the valuation of a position
abbrev pub valuation_terms : ℕ → ℕ → List Table → List Term
valuation_terms signals base tables = map (table_term (current signals base)) tables

-- the tables agree with the valuation before, if there is one
abbrev pub before_terms : ℕ → List Table → List Term
before_terms base tables = map (λ table. guarded (had base) (table_term (earlier base) table)) tables
