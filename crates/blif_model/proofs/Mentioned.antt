-- What the statements of a model mention, and what they cost.
use Rattle.std.proofs.Common.{◌≡◌, ℕ, ◌+◌, ◌≤◌, Bool, true, false, eqb, ltb, cond, ◌&&◌, List, [], ◌∷◌, ◌++◌, length, map, Option, None, Some, refl, sym, ap, ◌∙◌, arith}
use Rattle.std.proofs.lemmas.Bool.{eqb-true}
use Rattle.std.proofs.lemmas.List.{append-nil, append_assoc, length-map}
use Rattle.std.specs.List.{sum_by, list_all}
use Rattle.std.proofs.lemmas.List.Sums.{sum_by_push}
use Rattle.psl_base.specs.Tokens.{PlacedToken}
use Rattle.netlist.specs.declared.rows.Mark.{Mark}
use Rattle.blif_model.specs.Models.{Mention, Gate, Statement, IsInputs, IsOutputs, IsLatch, IsTable, driven, used}
use Rattle.blif_model.specs.Shapes.{Row, row_of, is_mark, is_bit, mark_of}
use Rattle.blif_model.specs.Standing.{all_but_last, last_of, mentions_of_names, with_row, with_row_in, with_last_row, table_by}
use Rattle.blif_model.proofs.Texts.{size_of}

-- what a statement mentions
abbrev pub mentions_in : Statement → List Mention
mentions_in (IsInputs words) = map driven words
mentions_in (IsOutputs words) = map used words
mentions_in (IsLatch latch) = used latch.input ∷ driven latch.output ∷ []
mentions_in (IsTable gate) = map used gate.inputs ++ driven gate.output ∷ []

abbrev pub all_mentions : List Statement → List Mention
all_mentions [] = []
all_mentions (statement ∷ statements) = mentions_in statement ++ all_mentions statements

pub all_mentions-append : (statements more : List Statement) → all_mentions (statements ++ more) ≡ all_mentions statements ++ all_mentions more
all_mentions-append [] more = refl
all_mentions-append (statement ∷ statements) more =
    ap (λ (rest : List Mention). mentions_in statement ++ rest) (all_mentions-append statements more)
    ∙ sym (append_assoc (mentions_in statement) (all_mentions statements) (all_mentions more))

-- a row for each input of its table
abbrev pub AreWide : ℕ → List (List Mark) → Type 0
AreWide width [] = Unit {0}
AreWide width (row ∷ rows) = (length row ≡ width) × AreWide width rows

pub AreWide-push : (width : ℕ) (rows : List (List Mark)) (row : List Mark) → AreWide width rows → length row ≡ width → AreWide width (rows ++ row ∷ [])
AreWide-push width [] row all is = (is, tt)
AreWide-push width (other ∷ rows) row all is = (all.0, AreWide-push width rows row all.1 is)

abbrev pub IsWide : Statement → Type 0
IsWide (IsInputs words) = Unit {0}
IsWide (IsOutputs words) = Unit {0}
IsWide (IsLatch latch) = Unit {0}
IsWide (IsTable gate) = AreWide (length gate.inputs) gate.rows

abbrev pub AllWide : List Statement → Type 0
AllWide [] = Unit {0}
AllWide (statement ∷ statements) = IsWide statement × AllWide statements

pub AllWide-append : (statements more : List Statement) → AllWide statements → AllWide more → AllWide (statements ++ more)
AllWide-append [] more all rest = rest
AllWide-append (statement ∷ statements) more all rest = (all.0, AllWide-append statements more all.1 rest)

-- a table counts as one, and each mark of its rows
abbrev pub marks_in : List (List Mark) → ℕ
marks_in rows = sum_by (length {A = Mark}) rows

abbrev pub cost_in : Statement → ℕ
cost_in (IsInputs words) = 0
cost_in (IsOutputs words) = 0
cost_in (IsLatch latch) = 0
cost_in (IsTable gate) = 1 + marks_in gate.rows

abbrev pub cost_of : List Statement → ℕ
cost_of [] = 0
cost_of (statement ∷ statements) = cost_in statement + cost_of statements

pub cost-append : (statements more : List Statement) → cost_of (statements ++ more) ≡ cost_of statements + cost_of more
cost-append [] more = omega arith
cost-append (statement ∷ statements) more = omega (arith, cost-append statements more)

-- a row has the width that it is asked for, and no more marks than its words have bytes
abbrev FitsRow : ℕ → List PlacedToken → Option Row → Type 0
FitsRow width words None = Unit {0}
FitsRow width words (Some row) = (length row.marks ≡ width) × (length row.marks ≤ size_of words)

output_alone : (zero : Bool) (bit : Bool) (width : ℕ) (output : PlacedToken) → (zero ≡ true → width ≡ 0)
    → FitsRow width (output ∷ []) (cond (zero && bit) (Some (record { marks = []; output = output })) None)
output_alone true true width output is = (sym (is refl), omega arith)
output_alone true false width output is = tt
output_alone false bit width output is = tt

marked : (some wide all bit : Bool) (width : ℕ) (word output : PlacedToken) → (wide ≡ true → length word.text ≡ width)
    → FitsRow width (word ∷ output ∷ []) (cond (some && (wide && all) && bit) (Some (record { marks = map mark_of word.text; output = output })) None)
marked true true true true width word output is =
    let size = length-map word.text mark_of in
    (size ∙ is refl, omega (arith, size))
marked true true true false width word output is = tt
marked true true false bit width word output is = tt
marked true false all bit width word output is = tt
marked false wide all bit width word output is = tt

row_fits : (width : ℕ) (words : List PlacedToken) → FitsRow width words (row_of width words)
row_fits width [] = tt
row_fits width (output ∷ []) = output_alone (eqb width 0) (is_bit output.text) width output (eqb-true width 0)
row_fits width (word ∷ output ∷ []) =
    marked (ltb 0 width) (eqb (length word.text) width) (list_all is_mark word.text) (is_bit output.text) width word output (eqb-true (length word.text) width)
row_fits width (word ∷ other ∷ output ∷ words) = tt

-- a table with a row more
with_fitting : (gate : Gate) (words : List PlacedToken) (row : Option Row) → FitsRow (length gate.inputs) words row → AreWide (length gate.inputs) gate.rows
    → IsWide (IsTable (with_row gate row)) × (mentions_in (IsTable (with_row gate row)) ≡ mentions_in (IsTable gate))
    × (cost_in (IsTable (with_row gate row)) ≤ cost_in (IsTable gate) + size_of words)
with_fitting gate words None fits wide = (wide, refl, omega arith)
with_fitting gate words (Some row) fits wide =
    (AreWide-push (length gate.inputs) gate.rows row.marks wide fits.0, refl, omega (arith, sum_by_push (length {A = Mark}) gate.rows row.marks, fits.1))

pub row_in : (statement : Statement) (words : List PlacedToken) → IsWide statement
    → IsWide (with_row_in statement words) × (mentions_in (with_row_in statement words) ≡ mentions_in statement)
    × (cost_in (with_row_in statement words) ≤ cost_in statement + size_of words)
row_in (IsInputs list) words wide = (tt, refl, omega arith)
row_in (IsOutputs list) words wide = (tt, refl, omega arith)
row_in (IsLatch latch) words wide = (tt, refl, omega arith)
row_in (IsTable gate) words wide = with_fitting gate words (row_of (length gate.inputs) words) (row_fits (length gate.inputs) words) wide

pub last_row : (statements : List Statement) (words : List PlacedToken) → AllWide statements
    → AllWide (with_last_row statements words) × (all_mentions (with_last_row statements words) ≡ all_mentions statements)
    × (cost_of (with_last_row statements words) ≤ cost_of statements + size_of words)
last_row [] words wide = (tt, refl, omega arith)
last_row (statement ∷ []) words wide =
    let one = row_in statement words wide.0 in
    ((one.0, tt), ap (λ (list : List Mention). list ++ []) one.1, omega (arith, one.2))
last_row (statement ∷ other ∷ statements) words wide =
    let rest = last_row (other ∷ statements) words wide.1 in
    ((wide.0, rest.0), ap (λ (list : List Mention). mentions_in statement ++ list) rest.1, omega (arith, rest.2))

-- the words behind a `.names`
last_some : (word : PlacedToken) (words : List PlacedToken) → (output : PlacedToken) × (last_of (word ∷ words) ≡ Some output)
last_some word [] = (word, refl)
last_some word (other ∷ words) = last_some other words

gate_mentions : (word : PlacedToken) (words : List PlacedToken) (output : PlacedToken) → last_of (word ∷ words) ≡ Some output
    → map used (all_but_last (word ∷ words)) ++ driven output ∷ [] ≡ mentions_of_names (word ∷ words)
gate_mentions word [] output is = let same : word ≡ output = cc in ap (λ (w : PlacedToken). driven w ∷ []) (sym same)
gate_mentions word (other ∷ words) output is = ap (λ (rest : List Mention). used word ∷ rest) (gate_mentions other words output is)

pub names_mentions : (words : List PlacedToken) → all_mentions (table_by words (last_of words)) ≡ mentions_of_names words
names_mentions [] = refl
names_mentions (word ∷ words) =
    let last = last_some word words in
    ap (λ (o : Option PlacedToken). all_mentions (table_by (word ∷ words) o)) last.1
    ∙ append-nil (map used (all_but_last (word ∷ words)) ++ driven last.0 ∷ [])
    ∙ gate_mentions word words last.0 last.1

-- a table that begins has no row
pub table_wide : (words : List PlacedToken) (output : Option PlacedToken) → AllWide (table_by words output) × (cost_of (table_by words output) ≤ 1)
table_wide words None = (tt, omega arith)
table_wide words (Some output) = ((tt, tt), omega arith)
