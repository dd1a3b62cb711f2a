-- Sets of vectors as sixteen bits.
use Rattle.std.proofs.Common.{◌≡◌, ℕ, zero, suc, ◌+◌, ◌-◌, ◌<◌, ◌==◌, min, max, Bool, true, false, not, ◌&&◌, ◌||◌, cond, List, [], ◌∷◌, map, length, take, get_or, refl, sym, ap, ◌∙◌, subst, arith, lit<, inl, inr, bit_and, bit_or, w16}
use Rattle.std.specs.Int.{bit_at}
use Rattle.std.specs.List.{list_all, list_any, range_with_len}
use Rattle.std.proofs.lemmas.Bool.{and_parts, cases_Bool, eq-eqb, eqb-true, false≢true, ne_eqb}
use Rattle.std.proofs.lemmas.List.Folds.{list_any_more}
use Rattle.std.proofs.lemmas.Nat.{and_le_l}
use Rattle.std.proofs.lemmas.Nat.Bits.{bit_at-zero, bit_at_and, bit_at_not, bit_at_ones, bit_at_or, same_from_bits_below}
use Rattle.netlist.specs.declared.rows.Mark.{Mark}
use Rattle.netlist.specs.declared.rows.Mark.TheVariants as marks
use Rattle.netlist.specs.Valuations.{fits_mark, fits_row}
use Rattle.gates_theory.proofs.Literals.{not_not}
use Rattle.gates_nodes.specs.Nodes.{fits_some}
use Rattle.gates_covers.specs.Greedy.{fits_one, is_taken}
use Rattle.gates_covers.specs.Points.{IsMask, point_of, points}

min-digit : (a b : Bool) → min (cond a 1 0) (cond b 1 0) ≡ cond (a && b) 1 0
min-digit false false = refl
min-digit false true = refl
min-digit true false = refl
min-digit true true = refl

max-digit : (a b : Bool) → max (cond a 1 0) (cond b 1 0) ≡ cond (a || b) 1 0
max-digit false false = refl
max-digit false true = refl
max-digit true false = refl
max-digit true true = refl

not-digit : (a : Bool) → 1 - cond a 1 0 ≡ cond (not a) 1 0
not-digit false = refl
not-digit true = refl

pub mask-as : (m : ℕ) (f g : List Bool → Bool) → ((k : ℕ) → k < 16 → f (point_of k) ≡ g (point_of k)) → IsMask m f → IsMask m g
mask-as m f g same is k below = is k below ∙ ap (λ b. cond b 1 0) (same k below)

pub mask-and : (m n : ℕ) (f g : List Bool → Bool) → IsMask m f → IsMask n g → IsMask (bit_and m n) (λ p. f p && g p)
mask-and m n f g one two k below = bit_at_and m n k ∙ ap (λ x. min x (bit_at n k)) (one k below) ∙ ap (λ y. min (cond (f (point_of k)) 1 0) y) (two k below) ∙ min-digit (f (point_of k)) (g (point_of k))

pub mask-or : (m n : ℕ) (f g : List Bool → Bool) → IsMask m f → IsMask n g → IsMask (bit_or m n) (λ p. f p || g p)
mask-or m n f g one two k below = bit_at_or m n k ∙ ap (λ x. max x (bit_at n k)) (one k below) ∙ ap (λ y. max (cond (f (point_of k)) 1 0) y) (two k below) ∙ max-digit (f (point_of k)) (g (point_of k))

pub mask-not : (m : ℕ) (f : List Bool → Bool) → m < 65536 → IsMask m f → IsMask (65535 - m) (λ p. not (f p))
mask-not m f small is k below = bit_at_not w16 m k small below ∙ ap (λ x. 1 - x) (is k below) ∙ not-digit (f (point_of k))

pub mask-all : IsMask 65535 (λ p. true)
mask-all k below = bit_at_ones 16 k below

pub mask-none : IsMask 0 (λ p. false)
mask-none k below = bit_at-zero k

-- what is computed of the numbers below a bound holds of each
in-range : (test : ℕ → Bool) (first count k : ℕ) → list_all test (range_with_len first count) ≡ true → k < count → test (first + k) ≡ true
in-range test first zero k all below = absurd (omega arith)
in-range test first (suc count) zero all below =
    let e : first + 0 ≡ first = omega arith in rw e (and_parts (test first) (list_all test (range_with_len (first + 1) count)) all).0
in-range test first (suc count) (suc k) all below =
    let e : first + suc k ≡ first + 1 + k = omega arith in
    rw e (in-range test (first + 1) count k (and_parts (test first) (list_all test (range_with_len (first + 1) count)) all).1 (omega arith))

pub below-range : (test : ℕ → Bool) (count k : ℕ) → list_all test (range_with_len 0 count) ≡ true → k < count → test k ≡ true
below-range test count k all below = let e : 0 + k ≡ k = omega arith in subst (λ j. test j ≡ true) e (in-range test 0 count k all below)

-- the vectors whose value at each place is 1
abbrev pub ones : ℕ → ℕ
ones place = get_or (65280 ∷ 61680 ∷ 52428 ∷ 43690 ∷ []) place 0

ones-at : (mask place : ℕ) → list_all (λ k. bit_at mask k == cond (get_or (point_of k) place false) 1 0) (range_with_len 0 16) ≡ true → IsMask mask (λ p. get_or p place false)
ones-at mask place all k below = eqb-true (bit_at mask k) (cond (get_or (point_of k) place false) 1 0) (below-range (λ k. bit_at mask k == cond (get_or (point_of k) place false) 1 0) 16 k all below)

pub ones-are : (place : ℕ) → place < 4 → IsMask (ones place) (λ p. get_or p place false)
ones-are zero below = ones-at 65280 0 refl
ones-are (suc zero) below = ones-at 61680 1 refl
ones-are (suc (suc zero)) below = ones-at 52428 2 refl
ones-are (suc (suc (suc zero))) below = ones-at 43690 3 refl
ones-are (suc (suc (suc (suc place)))) below = absurd (omega arith)

pub ones-small : (place : ℕ) → place < 4 → ones place < 65536
ones-small zero below = lit< tt
ones-small (suc zero) below = lit< tt
ones-small (suc (suc zero)) below = lit< tt
ones-small (suc (suc (suc zero))) below = lit< tt
ones-small (suc (suc (suc (suc place)))) below = absurd (omega arith)

-- what a row asks, place by place
regroup : (x y z w : Bool) → (x && (y && (z && (w && true)))) ≡ (x && y && z && w)
regroup false y z w = refl
regroup true false z w = refl
regroup true true false w = refl
regroup true true true false = refl
regroup true true true true = refl

abbrev pub asked_at : List Mark → ℕ → List Bool → Bool
asked_at row place point = fits_mark (get_or row place marks.Any) (get_or point place false)

row-places : (row : List Mark) (a b c d : Bool) → fits_row row (a ∷ b ∷ c ∷ d ∷ []) ≡
    (asked_at row 0 (a ∷ b ∷ c ∷ d ∷ []) && asked_at row 1 (a ∷ b ∷ c ∷ d ∷ []) && asked_at row 2 (a ∷ b ∷ c ∷ d ∷ []) && asked_at row 3 (a ∷ b ∷ c ∷ d ∷ []))
row-places [] a b c d = refl
row-places (m ∷ []) a b c d = regroup (fits_mark m a) true true true
row-places (m ∷ n ∷ []) a b c d = regroup (fits_mark m a) (fits_mark n b) true true
row-places (m ∷ n ∷ o ∷ []) a b c d = regroup (fits_mark m a) (fits_mark n b) (fits_mark o c) true
row-places (m ∷ n ∷ o ∷ p ∷ row) a b c d = past row ∙ regroup (fits_mark m a) (fits_mark n b) (fits_mark o c) (fits_mark p d)
  where
    past : (row : List Mark) → fits_row (m ∷ n ∷ o ∷ p ∷ row) (a ∷ b ∷ c ∷ d ∷ []) ≡ (fits_mark m a && (fits_mark n b && (fits_mark o c && (fits_mark p d && true))))
    past [] = refl
    past (q ∷ row) = refl

-- the vectors that fit the mark of a row at a place
pub mask-zero : (row : List Mark) (place : ℕ) → place < 4 → get_or row place marks.Any ≡ marks.Zero → IsMask (65535 - ones place) (asked_at row place)
mask-zero row place below is =
    mask-as (65535 - ones place) (λ p. not (get_or p place false)) (asked_at row place) (λ k few. ap (λ m. fits_mark m (get_or (point_of k) place false)) (sym is))
    (mask-not (ones place) (λ p. get_or p place false) (ones-small place below) (ones-are place below))

pub mask-one : (row : List Mark) (place : ℕ) → place < 4 → get_or row place marks.Any ≡ marks.One → IsMask (ones place) (asked_at row place)
mask-one row place below is =
    mask-as (ones place) (λ p. get_or p place false) (asked_at row place) (λ k few. ap (λ m. fits_mark m (get_or (point_of k) place false)) (sym is)) (ones-are place below)

pub mask-any : (row : List Mark) (place : ℕ) → get_or row place marks.Any ≡ marks.Any → IsMask 65535 (asked_at row place)
mask-any row place is = mask-as 65535 (λ p. true) (asked_at row place) (λ k few. ap (λ m. fits_mark m (get_or (point_of k) place false)) (sym is)) mask-all

pub mask-row : (row : List Mark) (w x y z : ℕ) → IsMask w (asked_at row 0) → IsMask x (asked_at row 1) → IsMask y (asked_at row 2) → IsMask z (asked_at row 3) →
    IsMask (bit_and (bit_and (bit_and w x) y) z) (fits_row row)
mask-row row w x y z first second third fourth =
    mask-as (bit_and (bit_and (bit_and w x) y) z) (λ p. asked_at row 0 p && asked_at row 1 p && asked_at row 2 p && asked_at row 3 p) (fits_row row)
    (λ k below. sym (row-places row (get_or (point_of k) 0 false) (get_or (point_of k) 1 false) (get_or (point_of k) 2 false) (get_or (point_of k) 3 false)))
    (mask-and (bit_and (bit_and w x) y) z (λ p. asked_at row 0 p && asked_at row 1 p && asked_at row 2 p) (asked_at row 3)
    (mask-and (bit_and w x) y (λ p. asked_at row 0 p && asked_at row 1 p) (asked_at row 2)
    (mask-and w x (asked_at row 0) (asked_at row 1) first second) third) fourth)

-- whether a set has a vector
some-number : (test : List Bool → Bool) (first count : ℕ) → list_any test (map point_of (range_with_len first count)) ≡ true → (k : ℕ) × (k < count) × (test (point_of (first + k)) ≡ true)
some-number test first zero any = absurd (false≢true any)
some-number test first (suc count) any = elim (cases_Bool (test (point_of first))) [
  | inl here ↦ let e : first + 0 ≡ first = omega arith in (0, omega arith, rw e here)
  | inr fails ↦
      let rest = some-number test (first + 1) count (subst (λ b. (b || list_any test (map point_of (range_with_len (first + 1) count))) ≡ true) fails any) in
      let e : first + suc rest.0 ≡ first + 1 + rest.0 = omega arith in
      (suc rest.0, omega (arith, rest.1), rw e rest.2)
]

or-none : (a b : Bool) → (a || b) ≡ false → (a ≡ false) × (b ≡ false)
or-none false b none = (refl, none)
or-none true b none = absurd (false≢true (sym none))

no-number : (test : List Bool → Bool) (first count k : ℕ) → list_any test (map point_of (range_with_len first count)) ≡ false → k < count → test (point_of (first + k)) ≡ false
no-number test first zero k none below = absurd (omega arith)
no-number test first (suc count) zero none below = let e : first + 0 ≡ first = omega arith in rw e (or-none (test (point_of first)) (list_any test (map point_of (range_with_len (first + 1) count))) none).0
no-number test first (suc count) (suc k) none below =
    let e : first + suc k ≡ first + 1 + k = omega arith in
    rw e (no-number test (first + 1) count k (or-none (test (point_of first)) (list_any test (map point_of (range_with_len (first + 1) count))) none).1 (omega arith))

pub no-point : (test : List Bool → Bool) (k : ℕ) → k < 16 → list_any test points ≡ false → test (point_of k) ≡ false
unfolding points
no-point test k below none = let e : 0 + k ≡ k = omega arith in subst (λ j. test (point_of j) ≡ false) e (no-number test 0 16 k none below)

some-point : (test : List Bool → Bool) → list_any test points ≡ true → (k : ℕ) × (k < 16) × (test (point_of k) ≡ true)
unfolding points
some-point test some =
    let at = some-number test 0 16 some in
    let e : 0 + at.0 ≡ at.0 = omega arith in
    (at.0, at.1, subst (λ j. test (point_of j) ≡ true) e at.2)

pub no-points : (test : List Bool → Bool) → ((k : ℕ) → k < 16 → test (point_of k) ≡ false) → list_any test points ≡ false
no-points test each = elim (cases_Bool (list_any test points)) [
  | inl some ↦ let at = some-point test some in absurd (false≢true (sym (each at.0 at.1) ∙ at.2))
  | inr none ↦ none
]

none-pass : (m : ℕ) (test : List Bool → Bool) → m < 65536 → IsMask m test → (m == 0) ≡ not (list_any test points)
none-pass m test small is = elim (cases_Bool (list_any test points)) [
  | inl some ↦
      let at = some-point test some in
      let one : bit_at m at.0 ≡ 1 = is at.0 at.1 ∙ ap (λ b. cond b 1 0) at.2 in
      ne_eqb m 0 (λ same. (let no : bit_at m at.0 ≡ 0 = ap (λ n. bit_at n at.0) same ∙ bit_at-zero at.0 in absurd (omega (arith, one, no)))) ∙ sym (ap not some)
  | inr none ↦
      eq-eqb m 0 (same_from_bits_below 16 m 0 small (lit< tt) (λ k below. is k below ∙ ap (λ b. cond b 1 0) (no-point test k below none) ∙ sym (bit_at-zero k))) ∙ sym (ap not none)
]

pub taken-is : (points fitted covered : ℕ) (rows others : List (List Mark)) (row : List Mark) → points < 65536 → covered < 65536 →
    IsMask points (fits_row row) → IsMask fitted (fits_some rows) → IsMask covered (fits_some others) →
    (bit_and points fitted == 0 && not (bit_and points (65535 - covered) == 0)) ≡ is_taken rows others row
unfolding fits_one
taken-is points fitted covered rows others row small few here there before =
    let apart = none-pass (bit_and points fitted) (λ p. fits_row row p && fits_some rows p) (omega (arith, and_le_l points fitted)) (mask-and points fitted (fits_row row) (fits_some rows) here there) in
    let new = none-pass (bit_and points (65535 - covered)) (λ p. fits_row row p && not (fits_some others p)) (omega (arith, and_le_l points (65535 - covered)))
    (mask-and points (65535 - covered) (fits_row row) (λ p. not (fits_some others p)) here (mask-not covered (fits_some others) few before)) in
    rw (apart, new) (ap (λ b. not (fits_one (fits_some rows) row) && b) (not_not (fits_one (λ p. not (fits_some others p)) row)))

-- one row more of some
pub mask-more : (points mask : ℕ) (rows : List (List Mark)) (i : ℕ) → i < length rows → IsMask points (fits_some (take i rows)) → IsMask mask (fits_row (get_or rows i [])) →
    IsMask (bit_or points mask) (fits_some (take (i + 1) rows))
mask-more points mask rows i below before here =
    mask-as (bit_or points mask) (λ p. fits_some (take i rows) p || fits_row (get_or rows i []) p) (fits_some (take (i + 1) rows)) (λ k few. sym (list_any_more (λ row. fits_row row (point_of k)) rows i [] below))
    (mask-or points mask (fits_some (take i rows)) (fits_row (get_or rows i [])) before here)
