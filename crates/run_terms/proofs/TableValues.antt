-- Tables as terms: their values, literals and sizes.
use Rattle.std.proofs.Common.{◌≡◌, ℕ, ◌<◌, ℤ, Bool, true, false, not, ◌&&◌, ◌||◌, cond, List, [], ◌∷◌, map, fold, refl, sym, ap, ◌∙◌}
use Rattle.std.specs.Prelude.{All}
use Rattle.std.specs.Bool.{IsTrue}
use Rattle.std.specs.List.{list_any, list_all}
use Rattle.std.proofs.lemmas.Bool.{and_from, and_parts}
use Rattle.std.proofs.lemmas.List.Folds.{list_all-append}
use Rattle.std.proofs.lemmas.List.Elements.{All-nil, All-cons, All-head, All-tail, All-map, All-weaker}
use Rattle.clauses.specs.Literals.{is_within, variable_of}
use Rattle.clauses.specs.Models.{Assignment, is_true}
use Rattle.gates_theory.specs.Circuits.{same}
use Rattle.gates_theory.specs.Terms.{Term, value}
use Rattle.gates_theory.specs.Terms.Term.{Literal, Conjunction}
use Rattle.gates_theory.proofs.Literals.{not_not, true-neg, within_is}
use Rattle.gates_theory.proofs.Parts.{same-is, same-from}
use Rattle.netlist.specs.declared.rows.Mark.{Mark}
use Rattle.netlist.specs.declared.rows.Mark.TheVariants as marks
use Rattle.netlist.specs.declared.table.Table.{Table}
use Rattle.netlist.specs.Valuations.{bit, fits_mark, fits_row, output_by, output_in, Agree}
use Rattle.run_terms.specs.Booleans.{either}
use Rattle.run_terms.specs.Tables.{mark_literals, row_literals, all_of, one_of, fits_term, table_term, guarded}
use Rattle.run_terms.proofs.Logic.{either-value, constant-value, signed-value}

-- all of some literals are true
and_assoc : (a b c : Bool) → ((a && b) && c) ≡ (a && (b && c))
and_assoc true b c = refl
and_assoc false b c = refl

and_true : (a : Bool) → (a && true) ≡ a
and_true true = refl
and_true false = refl

or_assoc : (a b c : Bool) → ((a || b) || c) ≡ (a || (b || c))
or_assoc true b c = refl
or_assoc false b c = refl

or_false : (a : Bool) → (a || false) ≡ a
or_false true = refl
or_false false = refl

abbrev with_literal : Term → ℤ → Term
with_literal term literal = Conjunction term (Literal literal)

folded-value : (v : Assignment) (term : Term) (literals : List ℤ) → value v (fold with_literal term literals) ≡ (value v term && list_all (is_true v) literals)
folded-value v term [] = sym (and_true (value v term))
folded-value v term (literal ∷ literals) =
    folded-value v (with_literal term literal) literals ∙ and_assoc (value v term) (is_true v literal) (list_all (is_true v) literals)

pub all_of-value : (v : Assignment) (literals : List ℤ) → value v (all_of literals) ≡ list_all (is_true v) literals
all_of-value v [] = constant-value v true
all_of-value v (literal ∷ literals) = folded-value v (Literal literal) literals

-- one of some terms is true
either_folded-value : (v : Assignment) (term : Term) (terms : List Term) → value v (fold either term terms) ≡ (value v term || list_any (value v) terms)
either_folded-value v term [] = sym (or_false (value v term))
either_folded-value v term (other ∷ terms) =
    either_folded-value v (either term other) terms
    ∙ ap (λ b. b || list_any (value v) terms) (either-value v term other)
    ∙ or_assoc (value v term) (value v other) (list_any (value v) terms)

one_of-value : (v : Assignment) (terms : List Term) → value v (one_of terms) ≡ list_any (value v) terms
one_of-value v [] = constant-value v false
one_of-value v (term ∷ terms) = either_folded-value v term terms

-- a row
mark-value : (v : Assignment) (mark : Mark) (literal : ℤ) → 0 < variable_of literal → list_all (is_true v) (mark_literals mark literal) ≡ fits_mark mark (is_true v literal)
mark-value v marks.Zero literal some = and_true (is_true v _) ∙ true-neg v literal some
mark-value v marks.One literal some = and_true (is_true v literal)
mark-value v marks.Any literal some = refl

row-value : (v : Assignment) (row : List Mark) (literals : List ℤ) → All (λ literal. 0 < variable_of literal) literals
    → list_all (is_true v) (row_literals row literals) ≡ fits_row row (map (is_true v) literals)
row-value v [] literals some = refl
row-value v (mark ∷ row) [] some = refl
row-value v (mark ∷ row) (literal ∷ literals) some =
    list_all-append (is_true v) (mark_literals mark literal) (row_literals row literals)
    ∙ rw (mark-value v mark literal (All-head (λ l. 0 < variable_of l) literal literals some), row-value v row literals (All-tail (λ l. 0 < variable_of l) literal literals some)) refl

-- the rows
rows-value : (v : Assignment) (rows : List (List Mark)) (literals : List ℤ) → All (λ literal. 0 < variable_of literal) literals
    → list_any (value v) (map (λ row. all_of (row_literals row literals)) rows) ≡ list_any (λ row. fits_row row (map (is_true v) literals)) rows
rows-value v [] literals some = refl
rows-value v (row ∷ rows) literals some =
    rw (all_of-value v (row_literals row literals), row-value v row literals some, rows-value v rows literals some) refl

fits-nothing : (row : List Mark) → fits_row row [] ≡ true
fits-nothing [] = refl
fits-nothing (mark ∷ row) = refl

fits-value : (v : Assignment) (rows : List (List Mark)) (literals : List ℤ) → All (λ literal. 0 < variable_of literal) literals
    → value v (fits_term rows literals) ≡ list_any (λ row. fits_row row (map (is_true v) literals)) rows
fits-value v [] literals some = constant-value v false
fits-value v (row ∷ rows) [] some = constant-value v true ∙ rw (fits-nothing row) refl
fits-value v (row ∷ rows) (literal ∷ literals) some =
    one_of-value v (map (λ row. all_of (row_literals row (literal ∷ literals))) (row ∷ rows)) ∙ rows-value v (row ∷ rows) (literal ∷ literals) some

same_signed : (sign fits : Bool) → same sign fits ≡ cond fits sign (not sign)
same_signed true true = refl
same_signed true false = refl
same_signed false true = refl
same_signed false false = refl

-- a table's term is true where its output has the value that its rows say of its inputs
pub table-value : (v : Assignment) (place : ℕ → ℤ) (table : Table) → All (λ literal. 0 < variable_of literal) (map place table.inputs)
    → value v (table_term place table) ≡ same (is_true v (place table.output)) (output_by table (map (is_true v) (map place table.inputs)))
table-value v place table some =
    ap (same (is_true v (place table.output)))
    (signed-value v table.value (fits_term table.rows (map place table.inputs))
    ∙ ap (same table.value) (fits-value v table.rows (map place table.inputs) some)
    ∙ same_signed table.value (list_any (λ row. fits_row row (map (is_true v) (map place table.inputs))) table.rows))

-- Literals that stand for the signals of a valuation, of the first so many variables.
pub record IsPlaced (signals variables : ℕ) (place : ℕ → ℤ) : Type 0 where
  pub within : (signal : ℕ) → signal < signals → IsTrue (is_within variables (place signal))

-- Literals have the values of a valuation's signals
abbrev pub ShowsBits : ℕ → Assignment → (ℕ → ℤ) → List Bool → Type 0
ShowsBits signals v place valuation = (signal : ℕ) → signal < signals → is_true v (place signal) ≡ bit valuation signal

-- a table reads and drives signals that there are
abbrev pub IsOver : ℕ → Table → Type 0
IsOver signals table = (table.output < signals) × All (λ signal. signal < signals) table.inputs

inputs-some : (signals variables : ℕ) (place : ℕ → ℤ) (inputs : List ℕ) → IsPlaced signals variables place → All (λ signal. signal < signals) inputs
    → All (λ literal. 0 < variable_of literal) (map place inputs)
inputs-some signals variables place inputs placed over =
    All-map (λ literal. 0 < variable_of literal) place inputs
    (All-weaker (λ signal. signal < signals) (λ signal. 0 < variable_of (place signal)) (λ signal below. (within_is variables (place signal) (placed.within signal below)).0) inputs over)

inputs-are : (signals : ℕ) (v : Assignment) (place : ℕ → ℤ) (valuation : List Bool) (inputs : List ℕ) → ShowsBits signals v place valuation → All (λ signal. signal < signals) inputs
    → map (is_true v) (map place inputs) ≡ map (bit valuation) inputs
inputs-are signals v place valuation [] shows over = refl
inputs-are signals v place valuation (input ∷ inputs) shows over =
    rw (shows input (All-head (λ signal. signal < signals) input inputs over), inputs-are signals v place valuation inputs shows (All-tail (λ signal. signal < signals) input inputs over)) refl

pub table-says : (signals variables : ℕ) (v : Assignment) (place : ℕ → ℤ) (valuation : List Bool) (table : Table) → IsPlaced signals variables place
    → ShowsBits signals v place valuation → IsOver signals table → value v (table_term place table) ≡ same (bit valuation table.output) (output_in valuation table)
table-says signals variables v place valuation table placed shows over =
    table-value v place table (inputs-some signals variables place table.inputs placed over.1)
    ∙ rw (shows table.output over.0, inputs-are signals v place valuation table.inputs shows over.1) refl

-- all tables
pub tables-agree : (signals variables : ℕ) (v : Assignment) (place : ℕ → ℤ) (valuation : List Bool) (tables : List Table) → IsPlaced signals variables place
    → ShowsBits signals v place valuation → All (IsOver signals) tables → IsTrue (list_all (value v) (map (table_term place) tables)) → Agree tables valuation
tables-agree signals variables v place valuation [] placed shows over holds = All-nil (λ table. bit valuation table.output ≡ output_in valuation table)
tables-agree signals variables v place valuation (table ∷ tables) placed shows over holds =
    let parts = and_parts (value v (table_term place table)) (list_all (value v) (map (table_term place) tables)) holds in
    let says = table-says signals variables v place valuation table placed shows (All-head (IsOver signals) table tables over) in
    All-cons (λ other. bit valuation other.output ≡ output_in valuation other) table tables
    (same-is (bit valuation table.output) (output_in valuation table) (sym says ∙ parts.0))
    (tables-agree signals variables v place valuation tables placed shows (All-tail (IsOver signals) table tables over) parts.1)

pub agree-tables : (signals variables : ℕ) (v : Assignment) (place : ℕ → ℤ) (valuation : List Bool) (tables : List Table) → IsPlaced signals variables place
    → ShowsBits signals v place valuation → All (IsOver signals) tables → Agree tables valuation → IsTrue (list_all (value v) (map (table_term place) tables))
agree-tables signals variables v place valuation [] placed shows over agree = refl
agree-tables signals variables v place valuation (table ∷ tables) placed shows over agree =
    let says = table-says signals variables v place valuation table placed shows (All-head (IsOver signals) table tables over) in
    let here = All-head (λ other. bit valuation other.output ≡ output_in valuation other) table tables agree in
    and_from (value v (table_term place table)) (list_all (value v) (map (table_term place) tables))
    (says ∙ same-from (bit valuation table.output) (output_in valuation table) here)
    (agree-tables signals variables v place valuation tables placed shows (All-tail (IsOver signals) table tables over)
    (All-tail (λ other. bit valuation other.output ≡ output_in valuation other) table tables agree))

-- all tables, where a literal is true
pub guarded-agree : (signals variables : ℕ) (v : Assignment) (guard : ℤ) (place : ℕ → ℤ) (tables : List Table) → is_true v guard ≡ true
    → list_all (value v) (map (λ table. guarded guard (table_term place table)) tables) ≡ list_all (value v) (map (table_term place) tables)
guarded-agree signals variables v guard place [] on = refl
guarded-agree signals variables v guard place (table ∷ tables) on =
    let here : value v (guarded guard (table_term place table)) ≡ value v (table_term place table) = rw on (not_not (value v (table_term place table))) in
    rw (here, guarded-agree signals variables v guard place tables on) refl

pub unguarded-agree : (v : Assignment) (guard : ℤ) (place : ℕ → ℤ) (tables : List Table) → is_true v guard ≡ false
    → IsTrue (list_all (value v) (map (λ table. guarded guard (table_term place table)) tables))
unguarded-agree v guard place [] off = refl
unguarded-agree v guard place (table ∷ tables) off =
    let here : value v (guarded guard (table_term place table)) ≡ true = rw off refl in
    and_from (value v (guarded guard (table_term place table))) (list_all (value v) (map (λ other. guarded guard (table_term place other)) tables)) here (unguarded-agree v guard place tables off)
