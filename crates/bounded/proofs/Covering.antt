-- What the tables of a netlist cost as nodes: each at most 487, and 22 for each mark of its rows.
use Rattle.std.proofs.Common.{◌≡◌, inl, inr, ℕ, zero, suc, ◌+◌, ◌*◌, ◌≤◌, ◌<◌, ℤ, pos, neg_ℤ, Bool, true, false, ◌||◌, cond, nat_le, List, [], ◌∷◌, ◌++◌, map, fold, length, Option, None, Some, refl, sym, ap, ◌∙◌, arith, length-append, suc-mul}
use Rattle.std.specs.Bool.{IsTrue}
use Rattle.std.specs.List.{All, cons_option, list_any, sum_by}
use Rattle.std.specs.Option.{option_map, option_or}
use Rattle.std.specs.Ordering.{int_eq}
use Rattle.std.proofs.lemmas.Bool.{cases_lt, cond_both, false≢true, le-leb}
use Rattle.std.proofs.lemmas.List.{length-map}
use Rattle.std.proofs.lemmas.List.Elements.{All-tail}
use Rattle.std.proofs.lemmas.List.Sums.{sum_by-cons}
use Rattle.gates_covers.specs.Greedy.{all_rows, cover_of, covers_of, is_taken, opposite, rows_asking, sides, with_taken}
use Rattle.gates_frames.specs.Frames.{Cone, Frame, literal_at, literal_or, signed, table_of, with_table}
use Rattle.gates_nodes.specs.declared.cover.Cover.{Cover}
use Rattle.gates_nodes.specs.declared.node.Node.{Node}
use Rattle.gates_nodes.specs.declared.node.Node.TheVariants.{Lut}
use Rattle.gates_nodes.specs.Clauses.{implied}
use Rattle.gates_nodes.specs.Folding.{Built, conjoined_all}
use Rattle.gates_nodes.specs.Nodes.{cover_at, no, yes}
use Rattle.gates_nodes.specs.Tables.{asked, cubes, has_literal, is_nil, left_of, sole, some_row, unless_told, with_literal, with_row}
use Rattle.gates_theory.proofs.Sizes.{words-cons}
use Rattle.netlist.specs.declared.rows.Mark.{Mark}
use Rattle.netlist.specs.declared.table.Table.{Table}
use Rattle.netlist.specs.Sound.{table_at}
use Rattle.bounded.proofs.Costs.{all-costs, cost, costs, costs-push, cover_words, either-costs, side_words}

-- the literals that are left of a row are no more than its marks, and no more than the inputs
abbrev option_length : Option (List ℤ) → ℕ
option_length None = 0
option_length (Some literals) = length literals

with-few : (found : Option (List ℤ)) (literal : ℤ) → option_length (with_literal 0 found literal) ≤ option_length found + 1
with-few None literal = omega arith
with-few (Some literals) literal =
    let P : Option (List ℤ) → Type 0 = λ o. option_length o ≤ length literals + 1 in
    cond_both (int_eq literal (yes 0) || has_literal literals literal) (Some literals) _ P (λ e. omega arith)
    (λ e. cond_both (int_eq literal (no 0) || has_literal literals (neg_ℤ literal)) None (Some (literals ++ literal ∷ [])) P (λ e. omega arith)
    (λ e. omega (arith, length-append literals (literal ∷ []))))

left-few : (found : Option (List ℤ)) (literals : List ℤ) → option_length (fold (with_literal 0) found literals) ≤ option_length found + length literals
left-few found [] = omega arith
left-few found (literal ∷ literals) = omega (arith, with-few found literal, left-few (with_literal 0 found literal) literals)

asked-few : (row : List Mark) (literals : List ℤ) → (length (asked 0 row literals) ≤ length row) × (length (asked 0 row literals) ≤ length literals)
asked-few [] literals = (omega arith, omega arith)
asked-few (mark ∷ row) [] = (omega arith, omega arith)
asked-few (mark ∷ row) (literal ∷ literals) = let rest = asked-few row literals in (omega (arith, rest.0), omega (arith, rest.1))

cube-few : (row : List Mark) (literals : List ℤ) → option_length (left_of 0 (asked 0 row literals)) ≤ length (asked 0 row literals)
cube-few row literals = omega (arith, left-few (Some []) (asked 0 row literals))

-- the words of one side are at most so many for each row
module _ (literals : List ℤ) where
  one-more : (row : List Mark) (rows : List (List Mark)) (left : Option (List ℤ)) → option_length left ≤ length (asked 0 row literals)
      → side_words (cubes 0 rows literals) ≤ length rows * (length literals + 2)
      → side_words (cons_option left (cubes 0 rows literals)) ≤ suc (length rows) * (length literals + 2)
  one-more row rows None few rest = omega (arith, rest, suc-mul (length rows) (length literals + 2))
  one-more row rows (Some cube) few rest =
      omega (
        arith,
        rest,
        few,
        (asked-few row literals).1,
        length-map cube neg_ℤ,
        words-cons (pos 1 ∷ map neg_ℤ cube) (implied (pos 1) (cubes 0 rows literals)),
        suc-mul (length rows) (length literals + 2),
      )

  most-words : (rows : List (List Mark)) → side_words (cubes 0 rows literals) ≤ length rows * (length literals + 2)
  most-words [] = omega arith
  most-words (row ∷ rows) = one-more row rows (left_of 0 (asked 0 row literals)) (cube-few row literals) (most-words rows)

-- where no row is met by constants, they are at most three for each mark
abbrev marks_in : List (List Mark) → ℕ
marks_in rows = sum_by (length {A = Mark}) rows

module _ (literals : List ℤ) where
  one-marked : (row : List Mark) (rows : List (List Mark)) (left : Option (List ℤ)) → option_length left ≤ length (asked 0 row literals)
      → (list_any is_nil (cubes 0 rows literals) ≡ false → side_words (cubes 0 rows literals) ≤ 3 * marks_in rows)
      → list_any is_nil (cons_option left (cubes 0 rows literals)) ≡ false
      → side_words (cons_option left (cubes 0 rows literals)) ≤ 3 * (length row + marks_in rows)
  one-marked row rows None few rest none = omega (arith, rest none)
  one-marked row rows (Some []) few rest none = absurd (false≢true (sym none))
  one-marked row rows (Some (literal ∷ cube)) few rest none =
      omega (
        arith,
        rest none,
        few,
        (asked-few row literals).0,
        length-map (literal ∷ cube) neg_ℤ,
        words-cons (pos 1 ∷ map neg_ℤ (literal ∷ cube)) (implied (pos 1) (cubes 0 rows literals)),
      )

  marked-words : (rows : List (List Mark)) → list_any is_nil (cubes 0 rows literals) ≡ false → side_words (cubes 0 rows literals) ≤ 3 * marks_in rows
  marked-words [] none = omega arith
  marked-words (row ∷ rows) none =
      let more = one-marked row rows (left_of 0 (asked 0 row literals)) (cube-few row literals) (marked-words rows) none in
      omega (arith, more, sum_by-cons (length {A = Mark}) row rows)

-- the other side has at most 81 rows
taken-few : (rows more others : List (List Mark)) → length (fold (with_taken rows) others more) ≤ length others + length more
taken-few rows [] others = omega arith
taken-few rows (row ∷ more) others =
    let P : List (List Mark) → Type 0 = λ l. length l ≤ length others + 1 in
    let one = cond_both (is_taken rows others row) (others ++ row ∷ []) others P (λ e. omega (arith, length-append others (row ∷ []))) (λ e. omega arith) in
    omega (arith, one, taken-few rows more (with_taken rows others row))

all-many : length all_rows ≡ 81
unfolding all_rows rows_asking
all-many = refl

opposite-few : (rows : List (List Mark)) → length (opposite rows) ≤ 81
unfolding opposite
opposite-few rows = omega (arith, taken-few rows all_rows [], all-many)

-- so the cover of a table has at most so many words, where neither side is met by constants
module _ (literals : List ℤ) (four : length literals ≡ 4) where
  other-words : (rows : List (List Mark)) → side_words (cubes 0 (opposite rows) literals) ≤ 486
  other-words rows =
      let most = most-words literals (opposite rows) in
      let product : length (opposite rows) * (length literals + 2) ≡ length (opposite rows) * 6 = ap (λ k. length (opposite rows) * (k + 2)) four in
      omega (arith, most, product, opposite-few rows)

  sides-words : (value : Bool) (rows : List (List Mark)) → list_any is_nil (cubes 0 (sides value rows (opposite rows)).on literals) ≡ false
      → list_any is_nil (cubes 0 (sides value rows (opposite rows)).off literals) ≡ false → cover_words (sides value rows (opposite rows)) literals ≤ 486 + 3 * marks_in rows
  sides-words true rows on off = omega (arith, marked-words literals rows on, other-words rows)
  sides-words false rows on off = omega (arith, marked-words literals rows off, other-words rows)

  table-words : (table : Table) → IsTrue (nat_le (length table.inputs) 4) → list_any is_nil (cubes 0 (cover_of table).on literals) ≡ false
      → list_any is_nil (cubes 0 (cover_of table).off literals) ≡ false → cover_words (cover_of table) literals ≤ 486 + 3 * marks_in table.rows
  table-words table few = rw few (sides-words table.value table.rows)

  numbered-words : (tables : List Table) (number : ℕ) → IsTrue (nat_le (length (table_at tables number).inputs) 4)
      → list_any is_nil (cubes 0 (cover_at (covers_of tables) number).on literals) ≡ false
      → list_any is_nil (cubes 0 (cover_at (covers_of tables) number).off literals) ≡ false
      → cover_words (cover_at (covers_of tables) number) literals ≤ 486 + 3 * marks_in (table_at tables number).rows
  numbered-words [] number few on off = omega (arith, most-words literals ([] ∷ []), four)
  numbered-words (table ∷ tables) zero few on off = table-words table few on off
  numbered-words (table ∷ tables) (suc number) few on off = numbered-words tables number few on off

-- a table of at most four inputs is one node at most
module _ (covers : List Cover) where
  told-costs : (nodes : List Node) (node : Node) (most : ℕ) (on off : Bool) (rest : Option ℤ) → (on ≡ false → off ≡ false → cost covers node ≤ most)
      → costs covers (unless_told 0 nodes node (cond on (Some (yes 0)) (cond off (Some (no 0)) rest))).nodes ≤ costs covers nodes + most
  told-costs nodes node most true off rest few = omega arith
  told-costs nodes node most false true rest few = omega arith
  told-costs nodes node most false false None few = omega (arith, few refl refl, costs-push covers nodes node)
  told-costs nodes node most false false (Some literal) few = omega arith

  signed-same : (value : Bool) (built : Built) → costs covers (signed value built).nodes ≡ costs covers built.nodes
  signed-same true built = refl
  signed-same false built = refl

  -- a table of more inputs is made of conjunctions, one for each mark and one for each row
  row-costs : (literals : List ℤ) (now : Built) (row : List Mark) → costs covers (with_row 0 literals now row).nodes ≤ costs covers now.nodes + 11 * length row + 11
  row-costs literals now row =
      let all = conjoined_all 0 now.nodes (asked 0 row literals) in
      let made = all-costs covers (asked 0 row literals) (record { nodes = now.nodes; output = yes 0 }) in
      omega (arith, made, either-costs covers all.nodes now.output all.output, (asked-few row literals).0)

  rows-costs : (literals : List ℤ) (rows : List (List Mark)) (now : Built) →
      costs covers (fold (with_row 0 literals) now rows).nodes ≤ costs covers now.nodes + 11 * marks_in rows + 11 * length rows
  rows-costs literals [] now = omega arith
  rows-costs literals (row ∷ rows) now =
      omega (arith, row-costs literals now row, rows-costs literals rows (with_row 0 literals now row), sum_by-cons (length {A = Mark}) row rows)

-- rows that have marks are no more than these
rows-few : (inputs : ℕ) (rows : List (List Mark)) → 0 < inputs → All (λ row. length row ≡ inputs) rows → length rows ≤ marks_in rows
rows-few inputs [] some each = omega arith
rows-few inputs (row ∷ rows) some each =
    omega (
      arith,
      rows-few inputs rows some (All-tail (λ (r : List Mark). length r ≡ inputs) row rows each),
      each 0 row (omega arith),
      sum_by-cons (length {A = Mark}) row rows,
    )

-- what a table costs at most
abbrev pub table_most : Table → ℕ
table_most table = 487 + 22 * marks_in table.rows

module _ (tables : List Table) where
  made-costs : (nodes : List Node) (number : ℕ) (literals : List ℤ) → All (λ row. length row ≡ length (table_at tables number).inputs) (table_at tables number).rows
      → costs (covers_of tables) (table_of (covers_of tables) 0 nodes number (table_at tables number) literals).nodes ≤ costs (covers_of tables) nodes + table_most (table_at tables number)
  made-costs nodes number literals each =
      let table = table_at tables number in
      let covers = covers_of tables in
      let four = literal_or 0 literals 0 ∷ literal_or 0 literals 1 ∷ literal_or 0 literals 2 ∷ literal_or 0 literals 3 ∷ [] in
      let lut = Lut number (literal_or 0 literals 0) (literal_or 0 literals 1) (literal_or 0 literals 2) (literal_or 0 literals 3) in
      let on = cubes 0 (cover_at covers number).on four in
      let off = cubes 0 (cover_at covers number).off four in
      cond_both (nat_le (length table.inputs) 4) _ _ (λ (built : Built). costs covers built.nodes ≤ costs covers nodes + table_most table)
      (λ few. (
      let made = told-costs covers nodes lut (487 + 3 * marks_in table.rows) (list_any is_nil on) (list_any is_nil off) (option_or (sole on) (option_map neg_ℤ (sole off)))
      (λ one two. omega (arith, numbered-words four refl tables number few one two)) in
      omega (arith, made)
      ))
      (λ many. (
      let made = rows-costs covers literals table.rows (record { nodes = nodes; output = no 0 }) in
      let least = rows-few (length table.inputs) table.rows (many-inputs (length table.inputs) many) each in
      omega (arith, made, least, signed-same covers table.value (some_row 0 nodes table.rows literals))
      ))
    where
      many-inputs : (k : ℕ) → nat_le k 4 ≡ false → 0 < k
      many-inputs k e = elim (cases_lt 0 k) [ inl some ↦ some | inr none ↦ absurd (false≢true (sym e ∙ le-leb k 4 (omega arith))) ]

  pub with_table-costs : (cone : Cone) (now : Frame) (number : ℕ) → All (λ row. length row ≡ length (table_at tables number).inputs) (table_at tables number).rows
      → costs (covers_of tables) (with_table (covers_of tables) 0 tables cone now number).nodes ≤ costs (covers_of tables) now.nodes + table_most (table_at tables number)
  with_table-costs cone now number each =
      let table = table_at tables number in
      let literals = map (literal_at 0 now.literals) table.inputs in
      let made = made-costs now.nodes number literals each in
      cond_both (cone table.output) _ now (λ (f : Frame). costs (covers_of tables) f.nodes ≤ costs (covers_of tables) now.nodes + table_most table)
      (λ e. made) (λ e. omega arith)
