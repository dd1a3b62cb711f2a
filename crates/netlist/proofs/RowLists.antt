-- Rows that lie one behind another: how many there are, the row at a place, one row more.
use Rattle.std.proofs.Common.{◌≡◌, ℕ, zero, suc, ◌+◌, ◌*◌, ◌<◌, ◌≤◌, List, [], ◌∷◌, ◌++◌, length, take, drop, get_or, sum_by, refl, ap, ◌∙◌, arith, length-append, length-drop}
use Rattle.std.specs.Prelude.{All}
use Rattle.std.proofs.Math.Nat.{mul-le-mul_right}
use Rattle.std.proofs.lemmas.List.{nil_from_length, take-append-le, drop-append-le, drop-drop, length-take-le, take_all}
use Rattle.std.proofs.lemmas.List.Sums.{sum_by-cons}
use Rattle.netlist.specs.declared.rows.Mark.{Mark}
use Rattle.netlist.specs.Rows.{rows_in}

pub length-rows_in : (count width : ℕ) (marks : List Mark) → length (rows_in count width marks) ≡ count
length-rows_in zero width marks = refl
length-rows_in (suc count) width marks = ap suc (length-rows_in count width (drop width marks))

pub row_at : (count width : ℕ) (marks : List Mark) (place : ℕ) → place < count → get_or (rows_in count width marks) place [] ≡ take width (drop (place * width) marks)
row_at zero width marks place within = absurd (omega arith)
row_at (suc count) width marks zero within = let none : 0 * width ≡ 0 = omega arith in rw none refl
row_at (suc count) width marks (suc place) within =
    let next : suc place * width ≡ width + place * width = omega arith in
    row_at count width (drop width marks) place (omega arith) ∙ rw (next, drop-drop (place * width) width marks) refl

-- the marks of a row are among those of all rows
pub row_within : (count width place : ℕ) → place < count → place * width + width ≤ count * width
row_within count width place within =
    let up : suc place ≤ count = omega arith in
    omega (arith, mul-le-mul_right width up)

pub sum_by-rows_in : (count width : ℕ) (marks : List Mark) → length marks ≡ count * width → sum_by (length {A = Mark}) (rows_in count width marks) ≡ length marks
sum_by-rows_in zero width marks whole = omega arith
sum_by-rows_in (suc count) width marks whole =
    let first : width ≤ length marks = omega arith in
    let rest : length (drop width marks) ≡ count * width = omega (arith, length-drop width marks) in
    omega (arith, sum_by-cons (length {A = Mark}) (take width marks) (rows_in count width (drop width marks)), sum_by-rows_in count width (drop width marks) rest, length-take-le width marks first, length-drop width marks)

rows_in-push : (count width : ℕ) (marks row : List Mark) → length marks ≡ count * width → length row ≡ width → rows_in (suc count) width (marks ++ row) ≡ rows_in count width marks ++ row ∷ []
rows_in-push zero width marks row whole same =
    let none : marks ≡ [] = nil_from_length marks (omega arith) in
    rw none (ap (λ front. front ∷ []) (take_all width row (omega arith)))
rows_in-push (suc count) width marks row whole same =
    let first : width ≤ length marks = omega arith in
    let rest : length (drop width marks) ≡ count * width = omega (arith, length-drop width marks) in
    rw (take-append-le width marks row first, drop-append-le width marks row first)
    (ap (λ rows. take width marks ∷ rows) (rows_in-push count width (drop width marks) row rest same))

width_of : (count width : ℕ) (marks row : List Mark) → length marks ≡ suc count * width → All (λ other. length other ≡ length row) (rows_in (suc count) width marks) → length row ≡ width
width_of count width marks row whole alike =
    let first : width ≤ length marks = omega arith in
    omega (arith, alike 0 [] (omega arith), length-take-le width marks first)

-- one row more, as long as the others
pub rows_in-more : (count width : ℕ) (marks row : List Mark) → length marks ≡ count * width → All (λ other. length other ≡ length row) (rows_in count width marks)
    → rows_in (suc count) (length row) (marks ++ row) ≡ rows_in count width marks ++ row ∷ []
rows_in-more zero width marks row whole alike =
    let none : marks ≡ [] = nil_from_length marks (omega arith) in
    rw none (ap (λ front. front ∷ []) (take_all (length row) row (omega arith)))
rows_in-more (suc count) width marks row whole alike =
    rw (width_of count width marks row whole alike) (rows_in-push (suc count) width marks row whole (width_of count width marks row whole alike))

pub whole-more : (count width : ℕ) (marks row : List Mark) → length marks ≡ count * width → All (λ other. length other ≡ length row) (rows_in count width marks)
    → length (marks ++ row) ≡ suc count * length row
whole-more zero width marks row whole alike = omega (arith, length-append marks row)
whole-more (suc count) width marks row whole alike =
    rw (width_of count width marks row whole alike) (omega (arith, length-append marks row, width_of count width marks row whole alike))
