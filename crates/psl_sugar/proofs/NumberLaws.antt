-- A comparison of two sides is the comparison of their numbers.
use Rattle.std.proofs.Common.{◌≡◌, ℕ, zero, suc, ◌+◌, ◌-◌, ◌*◌, ◌/◌, ◌%◌, ◌^◌, ◌<◌, ◌≤◌, Bool, true, false, not, ◌&&◌, ◌||◌, eqb, ltb, leb, List, length, ◌⊎◌, inl, inr, refl, sym, ap, subst, ◌∙◌, arith, pow-suc, add-one}
use Rattle.std.proofs.lemmas.Bool.{and_from, and_parts, cases_lt, not-true, not_from_false}
use Rattle.std.proofs.lemmas.Bool.Decides.{same_from_decides, Decides-eqb, nat_tests}
use Rattle.std.proofs.lemmas.List.FromFn.{sum_by-map-range_with_len_more}
use Rattle.std.proofs.lemmas.Nat.{mod-pow-add}
use Rattle.std.proofs.lemmas.Option.{slice_get_past}
use Rattle.std.proofs.Math.Nat.{mod-eq_of_lt, pow-le-pow_right}
use Rattle.std.specs.Prelude.{Decides, if◌then◌else◌}
use Rattle.psl_tree.specs.Holds.{holds_among}
use Rattle.psl_tree.specs.Trees.{Boolean, Const}
use Rattle.psl_tree.specs.declared.atom.Atom.{Atom}
use Rattle.psl_tree.specs.declared.letter.Letter.TheVariants.{Holds}
use Rattle.psl_sugar.specs.Booleans.{bit_or_zero, has_bit, conjunction_of}
use Rattle.psl_sugar.specs.Comparisons.{width_of, compared_width, side_bit, literal, same_bit, equality_from, equality, less_within, less, comparison_row}
use Rattle.psl_sugar.specs.Numbers.{number_of_bits, number_on, FitsIn, compares, ComparesNumbers}
use Rattle.psl_sugar.specs.declared.comparison.Comparison.{Comparison}
use Rattle.psl_sugar.specs.declared.comparison.Comparison.TheVariants as comparisons
use Rattle.psl_sugar.specs.declared.vector.Bit.{Bit}
use Rattle.psl_sugar.specs.declared.operand.Operand.{Operand}
use Rattle.psl_sugar.specs.declared.operand.Operand.TheVariants.{Bits, Value}

-- what a bit counts at a place
abbrev counts : Bool → ℕ → ℕ
counts is_one place = if is_one then 2 ^ place else 0

more_bits : (is_one : ℕ → Bool) (width : ℕ) → number_of_bits is_one (suc width) ≡ number_of_bits is_one width + counts (is_one width) width
more_bits is_one width =
    let step = sum_by-map-range_with_len_more (λ n. n) (λ place. counts (is_one place) place) 0 width width (omega arith) in
    rw add-one at step

number_below : (is_one : ℕ → Bool) (width : ℕ) → number_of_bits is_one width < 2 ^ width
number_below is_one zero = omega arith
number_below is_one (suc width) = by (is_one width) (more_bits is_one width) (number_below is_one width) where
  by : (b : Bool) → number_of_bits is_one (suc width) ≡ number_of_bits is_one width + counts b width → number_of_bits is_one width < 2 ^ width → number_of_bits is_one (suc width) < 2 ^ suc width
  by true e below = omega (arith, e, below, pow-suc 2 width)
  by false e below = omega (arith, e, below, pow-suc 2 width)

-- numbers with the same bits
same_number : (first second : ℕ → Bool) (width : ℕ) → ((place : ℕ) → place < width → first place ≡ second place) → number_of_bits first width ≡ number_of_bits second width
same_number first second zero same = refl
same_number first second (suc width) same =
    more_bits first width
    ∙ ap (λ n. n + counts (first width) width) (same_number first second width (λ (place : ℕ) (below : place < width). same place (omega arith)))
    ∙ ap (λ b. number_of_bits second width + counts b width) (same width (omega arith))
    ∙ sym (more_bits second width)

-- the same number has the same bits
last_bit : (p q : Bool) (x y power : ℕ) → x < power → y < power → x + (if p then power else 0) ≡ y + (if q then power else 0) → (p ≡ q) × (x ≡ y)
last_bit true true x y power h k e = (refl, omega arith)
last_bit true false x y power h k e = absurd (omega arith)
last_bit false true x y power h k e = absurd (omega arith)
last_bit false false x y power h k e = (refl, omega arith)

same_bits : (first second : ℕ → Bool) (width : ℕ) → number_of_bits first width ≡ number_of_bits second width → (place : ℕ) → place < width → first place ≡ second place
same_bits first second zero e place below = absurd (omega arith)
same_bits first second (suc width) e place below =
    let last = last_bit (first width) (second width) (number_of_bits first width) (number_of_bits second width) (2 ^ width) (number_below first width) (number_below second width)
    (sym (more_bits first width) ∙ e ∙ more_bits second width) in
    by last.0 (same_bits first second width last.1 place) (cases_lt place width) where
      by : first width ≡ second width → (place < width → first place ≡ second place) → (place < width) ⊎ (width ≤ place) → first place ≡ second place
      by here before (inl less) = before less
      by here before (inr least) =
          let last : place ≡ width = omega arith in
          rw last here

-- zeros on the left
zeros_on : (is_one : ℕ → Bool) (width more : ℕ) → ((place : ℕ) → width ≤ place → is_one place ≡ false) → number_of_bits is_one (width + more) ≡ number_of_bits is_one width
zeros_on is_one width zero none =
    let all : width + 0 ≡ width = omega arith in
    ap (number_of_bits is_one) all
zeros_on is_one width (suc more) none =
    let next : width + suc more ≡ suc (width + more) = omega arith in
    ap (number_of_bits is_one) next ∙ more_bits is_one (width + more)
    ∙ ap (λ b. number_of_bits is_one (width + more) + counts b (width + more)) (none (width + more) (omega arith))
    ∙ omega (arith, zeros_on is_one width more none)

-- the bits of a value
digit_counts : (digit power : ℕ) → digit < 2 → (if eqb digit 1 then power else 0) ≡ digit * power
digit_counts zero power below = omega arith
digit_counts (suc zero) power below = omega arith
digit_counts (suc (suc digit)) power below = absurd (omega arith)

value_bits : (value width : ℕ) → number_of_bits (has_bit value) width ≡ value % 2 ^ width
value_bits value zero = omega arith
value_bits value (suc width) =
    let power : 1 + width ≡ suc width = omega arith in
    let front : value % 2 ^ suc width ≡ value / 2 ^ width % 2 * 2 ^ width + value % 2 ^ width = rw power at (mod-pow-add value 1 width) in
    more_bits (has_bit value) width
    ∙ ap (λ n. n + counts (has_bit value width) width) (value_bits value width)
    ∙ ap (λ n. value % 2 ^ width + n) (digit_counts (value / 2 ^ width % 2) (2 ^ width) (omega arith))
    ∙ omega (arith, front)

module _ (atoms : List Atom) where
  -- whether the bit of a side is 1
  abbrev is_one : Operand → ℕ → Bool
  is_one side place = holds_among atoms (side_bit side place)

  -- the number that a side's bits are is the side's number
  vector_number : (vector : List Bit) (width : ℕ) → length vector ≤ width → number_of_bits (is_one (Bits vector)) width ≡ number_on (Holds atoms) (Bits vector)
  vector_number vector width wide =
      let end : length vector + (width - length vector) ≡ width = omega arith in
      ap (number_of_bits (is_one (Bits vector))) (sym end) ∙ zeros_on (is_one (Bits vector)) (length vector) (width - length vector) past
    where
      past : (place : ℕ) → length vector ≤ place → is_one (Bits vector) place ≡ false
      past place least = ap (λ bit. holds_among atoms (bit_or_zero bit)) (slice_get_past vector place least)

  side_number : (side : Operand) (width : ℕ) → width_of side ≤ width → FitsIn width side → number_of_bits (is_one side) width ≡ number_on (Holds atoms) side
  side_number (Bits vector) width wide fits = vector_number vector width wide
  side_number (Value value) width wide fits = value_bits value width ∙ mod-eq_of_lt fits

  -- two bits at the front, and the numbers behind them
  front_less : (p q : Bool) (x y power : ℕ) → x < power → y < power →
      ((not p && q) || ((not p || q) && ltb x y)) ≡ ltb (x + (if p then power else 0)) (y + (if q then power else 0))
  front_less true true x y power h k = grind (arith, nat_tests)
  front_less true false x y power h k = grind (arith, nat_tests)
  front_less false true x y power h k = grind (arith, nat_tests)
  front_less false false x y power h k = grind (arith, nat_tests)

  less_within-is : (left right : Operand) (places : ℕ) → holds_among atoms (less_within left right places) ≡ ltb (number_of_bits (is_one left) places) (number_of_bits (is_one right) places)
  less_within-is left right zero = refl
  less_within-is left right (suc places) =
      let p = is_one left places in
      let q = is_one right places in
      let x = number_of_bits (is_one left) places in
      let y = number_of_bits (is_one right) places in
      ap (λ b. (not p && q) || ((not p || q) && b)) (less_within-is left right places)
      ∙ front_less p q x y (2 ^ places) (number_below (is_one left) places) (number_below (is_one right) places)
      ∙ sym (rw (more_bits (is_one left) places, more_bits (is_one right) places) refl)

  -- where a conjunction holds, each of its parts does
  all_parts : (part : ℕ → Boolean) (more : ℕ) → holds_among atoms (conjunction_of part more) ≡ true → (n : ℕ) → n ≤ more → holds_among atoms (part n) ≡ true
  all_parts part zero h n le =
      let none : n ≡ 0 = omega arith in
      rw none h
  all_parts part (suc more) h n le =
      let both = and_parts (holds_among atoms (conjunction_of part more)) (holds_among atoms (part (suc more))) h in
      by both.1 (all_parts part more both.0 n) (cases_lt more n) where
        by : holds_among atoms (part (suc more)) ≡ true → (n ≤ more → holds_among atoms (part n) ≡ true) → (more < n) ⊎ (n ≤ more) → holds_among atoms (part n) ≡ true
        by here before (inl above) =
            let last : n ≡ suc more = omega arith in
            rw last here
        by here before (inr least) = before least

  from_parts : (part : ℕ → Boolean) (more : ℕ) → ((n : ℕ) → n ≤ more → holds_among atoms (part n) ≡ true) → holds_among atoms (conjunction_of part more) ≡ true
  from_parts part zero each = each 0 (omega arith)
  from_parts part (suc more) each =
      and_from (holds_among atoms (conjunction_of part more)) (holds_among atoms (part (suc more)))
      (from_parts part more (λ (n : ℕ) (le : n ≤ more). each n (omega arith))) (each (suc more) (omega arith))

  literal-is : (bit : Boolean) (wanted : Bool) → (holds_among atoms (literal bit wanted) ≡ true → holds_among atoms bit ≡ wanted) × (holds_among atoms bit ≡ wanted → holds_among atoms (literal bit wanted) ≡ true)
  literal-is bit true = ((λ h. h), (λ h. h))
  literal-is bit false = (not-true (holds_among atoms bit), not_from_false (holds_among atoms bit))

  alike-is : (p q : Bool) → ((((p && q) || (not p && not q)) ≡ true) → p ≡ q) × (p ≡ q → ((p && q) || (not p && not q)) ≡ true)
  alike-is true true = ((λ h. refl), (λ h. refl))
  alike-is true false = ((λ h. cc), (λ h. cc))
  alike-is false true = ((λ h. cc), (λ h. cc))
  alike-is false false = ((λ h. refl), (λ h. refl))

  turned : {p q : Bool} {P : Type 0} → (P → q ≡ p) × (q ≡ p → P) → (P → p ≡ q) × (p ≡ q → P)
  turned both = ((λ h. sym (both.0 h)), (λ e. both.1 (sym e)))

  same_bit-is : (left right : Operand) (place : ℕ) → Decides (holds_among atoms (same_bit left right place)) (is_one left place ≡ is_one right place)
  same_bit-is (Bits first) (Bits second) place = alike-is (is_one (Bits first) place) (is_one (Bits second) place)
  same_bit-is (Bits first) (Value value) place = literal-is (side_bit (Bits first) place) (has_bit value place)
  same_bit-is (Value value) (Bits second) place = turned (literal-is (side_bit (Bits second) place) (has_bit value place))
  same_bit-is (Value value) (Value other) place = literal-is (Const (has_bit value place)) (has_bit other place)

  equality_from-is : (left right : Operand) (leftmost : ℕ) →
      Decides (holds_among atoms (equality_from left right leftmost)) (number_of_bits (is_one left) (suc leftmost) ≡ number_of_bits (is_one right) (suc leftmost))
  equality_from-is left right leftmost = (equal, holds) where
    equal : holds_among atoms (equality_from left right leftmost) ≡ true → number_of_bits (is_one left) (suc leftmost) ≡ number_of_bits (is_one right) (suc leftmost)
    equal h = same_number (is_one left) (is_one right) (suc leftmost) each where
      each : (place : ℕ) → place < suc leftmost → is_one left place ≡ is_one right place
      each place below =
          let here : leftmost - (leftmost - place) ≡ place = omega arith in
          let same = all_parts (λ (more : ℕ). same_bit left right (leftmost - more)) leftmost h (leftmost - place) (omega arith) in
          (same_bit-is left right place).0 (rw here at same)

    holds : number_of_bits (is_one left) (suc leftmost) ≡ number_of_bits (is_one right) (suc leftmost) → holds_among atoms (equality_from left right leftmost) ≡ true
    holds e = from_parts (λ (more : ℕ). same_bit left right (leftmost - more)) leftmost each where
      each : (more : ℕ) → more ≤ leftmost → holds_among atoms (same_bit left right (leftmost - more)) ≡ true
      each more le = (same_bit-is left right (leftmost - more)).1 (same_bits (is_one left) (is_one right) (suc leftmost) e (leftmost - more) (omega arith))

  -- a value that fits in so many bits fits in more
  wider : (side : Operand) (width more : ℕ) → width ≤ more → FitsIn width side → FitsIn more side
  wider (Bits vector) width more le fits = tt
  wider (Value value) width more le fits =
      let power : 2 ^ width ≤ 2 ^ more = pow-le-pow_right (omega arith) le in
      omega arith

  module _ (left right : Operand) (fits_left : FitsIn (compared_width left right) left) (fits_right : FitsIn (compared_width left right) right) where
    left_number : (width : ℕ) → compared_width left right ≤ width → number_of_bits (is_one left) width ≡ number_on (Holds atoms) left
    left_number width le = side_number left width (omega arith) (wider left (compared_width left right) width le fits_left)

    right_number : (width : ℕ) → compared_width left right ≤ width → number_of_bits (is_one right) width ≡ number_on (Holds atoms) right
    right_number width le = side_number right width (omega arith) (wider right (compared_width left right) width le fits_right)

    pub less-is : holds_among atoms (less left right) ≡ ltb (number_on (Holds atoms) left) (number_on (Holds atoms) right)
    less-is =
        let width = compared_width left right in
        less_within-is left right width ∙ rw (left_number width (omega arith), right_number width (omega arith)) refl

    pub equality-is : holds_among atoms (equality left right) ≡ eqb (number_on (Holds atoms) left) (number_on (Holds atoms) right)
    equality-is =
        let width = compared_width left right in
        let leftmost = width - 1 in
        let x = number_on (Holds atoms) left in
        let y = number_on (Holds atoms) right in
        let decided : Decides (holds_among atoms (equality left right)) (x ≡ y) =
        rw (left_number (suc leftmost) (omega arith), right_number (suc leftmost) (omega arith)) at (equality_from-is left right leftmost) in
        same_from_decides (holds_among atoms (equality left right)) (eqb x y) decided (Decides-eqb x y)

  -- both orders of the sides have one width
  turn : (left right side : Operand) → FitsIn (compared_width left right) side → FitsIn (compared_width right left) side
  turn left right side fits =
      let same : compared_width left right ≡ compared_width right left = omega arith in
      subst (λ (width : ℕ). FitsIn width side) same fits

  not_less : (x y : ℕ) → not (ltb x y) ≡ leb y x
  not_less x y = grind (arith, nat_tests)

  pub compares-is : (comparison : Comparison) (left right : Operand) → FitsIn (compared_width left right) left → FitsIn (compared_width left right) right
      → holds_among atoms (comparison_row comparison left right) ≡ compares comparison (number_on (Holds atoms) left) (number_on (Holds atoms) right)
  compares-is comparisons.Equal left right h k = equality-is left right h k
  compares-is comparisons.Unequal left right h k = ap not (equality-is left right h k)
  compares-is comparisons.Less left right h k = less-is left right h k
  compares-is comparisons.LessEqual left right h k =
      ap not (less-is right left (turn left right right k) (turn left right left h)) ∙ not_less (number_on (Holds atoms) right) (number_on (Holds atoms) left)
  compares-is comparisons.Greater left right h k = less-is right left (turn left right right k) (turn left right left h)
  compares-is comparisons.GreaterEqual left right h k =
      ap not (less-is left right h k) ∙ not_less (number_on (Holds atoms) left) (number_on (Holds atoms) right)

pub compares_numbers : ComparesNumbers
compares_numbers comparison left right atoms h k = compares-is atoms comparison left right h k
