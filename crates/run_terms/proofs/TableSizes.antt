-- The literals of tables' terms, and how many gates they take.
use Rattle.std.proofs.Common.{◌≡◌, ℕ, suc, ◌+◌, ◌*◌, ◌<◌, ◌≤◌, ℤ, neg_ℤ, Bool, true, false, List, [], ◌∷◌, map, length, fold, refl, ◌∙◌, arith}
use Rattle.std.specs.Prelude.{All, sum_by}
use Rattle.std.specs.Bool.{IsTrue}
use Rattle.std.specs.List.{list_all}
use Rattle.std.proofs.lemmas.Bool.{and_from, and_parts}
use Rattle.std.proofs.lemmas.List.{length-append, length-map}
use Rattle.std.proofs.lemmas.List.Folds.{list_all-append}
use Rattle.std.proofs.lemmas.List.Elements.{All-head, All-tail}
use Rattle.std.proofs.lemmas.List.Sums.{sum_by-cons}
use Rattle.clauses.specs.Literals.{is_within, clause_within}
use Rattle.gates_theory.specs.Terms.{Term, term_within, term_size}
use Rattle.gates_theory.specs.Terms.Term.{Literal, Conjunction}
use Rattle.gates_theory.proofs.Within.{negated_within}
use Rattle.netlist.specs.declared.rows.Mark.{Mark}
use Rattle.netlist.specs.declared.rows.Mark.TheVariants as marks
use Rattle.netlist.specs.declared.table.Table.{Table}
use Rattle.netlist.specs.Design.{marks_of}
use Rattle.run_terms.specs.Booleans.{either, signed}
use Rattle.run_terms.specs.Sizes.{terms_size}
use Rattle.run_terms.specs.Tables.{mark_literals, row_literals, all_of, one_of, fits_term, table_term, guarded}
use Rattle.run_terms.proofs.Logic.{constant-within, signed-within, both_within}
use Rattle.run_terms.proofs.TableValues.{IsOver, IsPlaced}

abbrev with_literal : Term → ℤ → Term
with_literal term literal = Conjunction term (Literal literal)

-- literals
mark-within : (n : ℕ) (mark : Mark) (literal : ℤ) → IsTrue (is_within n literal) → IsTrue (clause_within n (mark_literals mark literal))
mark-within n marks.Zero literal within = and_from (is_within n (neg_ℤ literal)) true (negated_within n literal within) refl
mark-within n marks.One literal within = and_from (is_within n literal) true within refl
mark-within n marks.Any literal within = refl

row-within : (n : ℕ) (row : List Mark) (literals : List ℤ) → IsTrue (clause_within n literals) → IsTrue (clause_within n (row_literals row literals))
row-within n [] literals within = refl
row-within n (mark ∷ row) [] within = refl
row-within n (mark ∷ row) (literal ∷ literals) within =
    let parts = and_parts (is_within n literal) (clause_within n literals) within in
    list_all-append (is_within n) (mark_literals mark literal) (row_literals row literals)
    ∙ and_from (clause_within n (mark_literals mark literal)) (clause_within n (row_literals row literals)) (mark-within n mark literal parts.0) (row-within n row literals parts.1)

folded-within : (n : ℕ) (term : Term) (literals : List ℤ) → IsTrue (term_within n term) → IsTrue (clause_within n literals) → IsTrue (term_within n (fold with_literal term literals))
folded-within n term [] here within = here
folded-within n term (literal ∷ literals) here within =
    let parts = and_parts (is_within n literal) (clause_within n literals) within in
    folded-within n (with_literal term literal) literals (and_from (term_within n term) (is_within n literal) here parts.0) parts.1

pub all_of-within : (n : ℕ) (literals : List ℤ) → 0 < n → IsTrue (clause_within n literals) → IsTrue (term_within n (all_of literals))
all_of-within n [] some within = constant-within n true some
all_of-within n (literal ∷ literals) some within =
    let parts = and_parts (is_within n literal) (clause_within n literals) within in
    folded-within n (Literal literal) literals parts.0 parts.1

either_folded-within : (n : ℕ) (term : Term) (terms : List Term) → IsTrue (term_within n term) → IsTrue (list_all (term_within n) terms) → IsTrue (term_within n (fold either term terms))
either_folded-within n term [] here within = here
either_folded-within n term (other ∷ terms) here within =
    let parts = and_parts (term_within n other) (list_all (term_within n) terms) within in
    either_folded-within n (either term other) terms (both_within n term other here parts.0) parts.1

one_of-within : (n : ℕ) (terms : List Term) → 0 < n → IsTrue (list_all (term_within n) terms) → IsTrue (term_within n (one_of terms))
one_of-within n [] some within = constant-within n false some
one_of-within n (term ∷ terms) some within =
    let parts = and_parts (term_within n term) (list_all (term_within n) terms) within in
    either_folded-within n term terms parts.0 parts.1

rows-within : (n : ℕ) (rows : List (List Mark)) (literals : List ℤ) → 0 < n → IsTrue (clause_within n literals) → IsTrue (list_all (term_within n) (map (λ row. all_of (row_literals row literals)) rows))
rows-within n [] literals some within = refl
rows-within n (row ∷ rows) literals some within =
    and_from (term_within n (all_of (row_literals row literals))) (list_all (term_within n) (map (λ other. all_of (row_literals other literals)) rows))
    (all_of-within n (row_literals row literals) some (row-within n row literals within)) (rows-within n rows literals some within)

fits-within : (n : ℕ) (rows : List (List Mark)) (literals : List ℤ) → 0 < n → IsTrue (clause_within n literals) → IsTrue (term_within n (fits_term rows literals))
fits-within n [] literals some within = constant-within n false some
fits-within n (row ∷ rows) [] some within = constant-within n true some
fits-within n (row ∷ rows) (literal ∷ literals) some within =
    one_of-within n (map (λ other. all_of (row_literals other (literal ∷ literals))) (row ∷ rows)) some (rows-within n (row ∷ rows) (literal ∷ literals) some within)

inputs-within : (signals n : ℕ) (place : ℕ → ℤ) (inputs : List ℕ) → IsPlaced signals n place → All (λ signal. signal < signals) inputs → IsTrue (clause_within n (map place inputs))
inputs-within signals n place [] placed over = refl
inputs-within signals n place (input ∷ inputs) placed over =
    and_from (is_within n (place input)) (clause_within n (map place inputs)) (placed.within input (All-head (λ signal. signal < signals) input inputs over))
    (inputs-within signals n place inputs placed (All-tail (λ signal. signal < signals) input inputs over))

pub table-within : (signals n : ℕ) (place : ℕ → ℤ) (table : Table) → 0 < n → IsPlaced signals n place → IsOver signals table → IsTrue (term_within n (table_term place table))
table-within signals n place table some placed over =
    and_from (is_within n (place table.output)) (term_within n (signed table.value (fits_term table.rows (map place table.inputs)))) (placed.within table.output over.0)
    (signed-within n table.value (fits_term table.rows (map place table.inputs)) (fits-within n table.rows (map place table.inputs) some (inputs-within signals n place table.inputs placed over.1)))

pub tables-within : (signals n : ℕ) (place : ℕ → ℤ) (tables : List Table) → 0 < n → IsPlaced signals n place → All (IsOver signals) tables
    → IsTrue (list_all (term_within n) (map (table_term place) tables))
tables-within signals n place [] some placed over = refl
tables-within signals n place (table ∷ tables) some placed over =
    and_from (term_within n (table_term place table)) (list_all (term_within n) (map (table_term place) tables))
    (table-within signals n place table some placed (All-head (IsOver signals) table tables over)) (tables-within signals n place tables some placed (All-tail (IsOver signals) table tables over))

pub guarded-within : (signals n : ℕ) (guard : ℤ) (place : ℕ → ℤ) (tables : List Table) → 0 < n → IsTrue (is_within n guard) → IsPlaced signals n place → All (IsOver signals) tables
    → IsTrue (list_all (term_within n) (map (λ table. guarded guard (table_term place table)) tables))
guarded-within signals n guard place [] some on placed over = refl
guarded-within signals n guard place (table ∷ tables) some on placed over =
    and_from (term_within n (guarded guard (table_term place table))) (list_all (term_within n) (map (λ other. guarded guard (table_term place other)) tables))
    (and_from (is_within n guard) (term_within n (table_term place table)) on (table-within signals n place table some placed (All-head (IsOver signals) table tables over)))
    (guarded-within signals n guard place tables some on placed (All-tail (IsOver signals) table tables over))

-- sizes
mark-length : (mark : Mark) (literal : ℤ) → length (mark_literals mark literal) ≤ 1
mark-length marks.Zero literal = omega arith
mark-length marks.One literal = omega arith
mark-length marks.Any literal = omega arith

row-length : (row : List Mark) (literals : List ℤ) → length (row_literals row literals) ≤ length row
row-length [] literals = omega arith
row-length (mark ∷ row) [] = omega arith
row-length (mark ∷ row) (literal ∷ literals) =
    omega (arith, length-append (mark_literals mark literal) (row_literals row literals), mark-length mark literal, row-length row literals)

folded-size : (term : Term) (literals : List ℤ) → term_size (fold with_literal term literals) ≡ term_size term + length literals
folded-size term [] = omega arith
folded-size term (literal ∷ literals) = omega (arith, folded-size (with_literal term literal) literals)

pub all_of-size : (most : ℕ) (literals : List ℤ) → 0 < most → length literals ≤ most → term_size (all_of literals) ≤ most
all_of-size most [] some few = omega arith
all_of-size most (literal ∷ literals) some few = omega (arith, folded-size (Literal literal) literals)

either_folded-size : (term : Term) (terms : List Term) → term_size (fold either term terms) ≡ term_size term + (terms_size terms + length terms)
either_folded-size term [] = omega arith
either_folded-size term (other ∷ terms) = omega (arith, either_folded-size (either term other) terms, sum_by-cons term_size other terms)

rows-size : (inputs : ℕ) (rows : List (List Mark)) (literals : List ℤ) → 0 < inputs → All (λ row. length row ≡ inputs) rows
    → terms_size (map (λ row. all_of (row_literals row literals)) rows) + length (map (λ row. all_of (row_literals row literals)) rows) ≤ 2 * sum_by (length {A = Mark}) rows
rows-size inputs [] literals some even = omega arith
rows-size inputs (row ∷ rows) literals some even =
    let long = All-head (λ other. length other ≡ inputs) row rows even in
    let here = all_of-size (length row) (row_literals row literals) (omega (arith, long)) (row-length row literals) in
    omega (
      arith,
      here,
      long,
      rows-size inputs rows literals some (All-tail (λ other. length other ≡ inputs) row rows even),
      sum_by-cons term_size (all_of (row_literals row literals)) (map (λ other. all_of (row_literals other literals)) rows),
      sum_by-cons (length {A = Mark}) row rows,
    )

one_of-size : (terms : List Term) → term_size (one_of terms) ≤ terms_size terms + length terms + 1
one_of-size [] = omega arith
one_of-size (term ∷ terms) = omega (arith, either_folded-size term terms, sum_by-cons term_size term terms)

fits-size : (rows : List (List Mark)) (literals : List ℤ) → All (λ row. length row ≡ length literals) rows → term_size (fits_term rows literals) ≤ 2 * sum_by (length {A = Mark}) rows + 1
fits-size [] literals even = omega arith
fits-size (row ∷ rows) [] even = omega arith
fits-size (row ∷ rows) (literal ∷ literals) even =
    omega (
      arith,
      one_of-size (map (λ other. all_of (row_literals other (literal ∷ literals))) (row ∷ rows)),
      rows-size (suc (length literals)) (row ∷ rows) (literal ∷ literals) (omega arith) even,
    )

signed-size : (sign : Bool) (term : Term) → term_size (signed sign term) ≡ term_size term
signed-size true term = refl
signed-size false term = refl

-- at most two gates for each mark, and four more
pub table-size : (place : ℕ → ℤ) (table : Table) → All (λ row. length row ≡ length table.inputs) table.rows → term_size (table_term place table) ≤ 2 * sum_by (length {A = Mark}) table.rows + 4
table-size place table even =
    let long : length (map place table.inputs) ≡ length table.inputs = length-map table.inputs place in
    let rows = fits-size table.rows (map place table.inputs) (rw long even) in
    omega (arith, rows, signed-size table.value (fits_term table.rows (map place table.inputs)))

pub tables-size : (place : ℕ → ℤ) (tables : List Table) → All (λ table. All (λ row. length row ≡ length table.inputs) table.rows) tables
    → terms_size (map (table_term place) tables) ≤ 2 * marks_of tables + 4 * length tables
tables-size place [] even = omega arith
tables-size place (table ∷ tables) even =
    omega (
      arith,
      table-size place table (All-head (λ other. All (λ row. length row ≡ length other.inputs) other.rows) table tables even),
      tables-size place tables (All-tail (λ other. All (λ row. length row ≡ length other.inputs) other.rows) table tables even),
      sum_by-cons term_size (table_term place table) (map (table_term place) tables),
      sum_by-cons (λ (other : Table). sum_by (length {A = Mark}) other.rows) table tables,
    )

pub guarded-size : (guard : ℤ) (place : ℕ → ℤ) (tables : List Table)
    → terms_size (map (λ table. guarded guard (table_term place table)) tables) ≡ terms_size (map (table_term place) tables) + length tables
guarded-size guard place [] = omega arith
guarded-size guard place (table ∷ tables) =
    omega (
      arith,
      guarded-size guard place tables,
      sum_by-cons term_size (table_term place table) (map (table_term place) tables),
      sum_by-cons term_size (guarded guard (table_term place table)) (map (λ other. guarded guard (table_term place other)) tables),
    )
