-- Which variables the clauses of a circuit have.
use Rattle.std.proofs.Common.{◌≡◌, inl, inr, ℕ, zero, suc, ◌+◌, ◌*◌, ◌<◌, ◌≤◌, ℤ, pos, negsuc, neg_ℤ, List, [], ◌∷◌, ◌++◌, length, refl, ap, ◌∙◌, arith, mul-le-mul_right, suc-mul}
use Rattle.std.specs.Bool.{IsTrue}
use Rattle.std.proofs.lemmas.Bool.{and_from, and_parts, cases_lt}
use Rattle.std.proofs.lemmas.List.Folds.{list_all-append}
use Rattle.clauses.specs.Literals.{is_within, clause_within, clauses_within}
use Rattle.gates_theory.specs.declared.circuit.Circuit.{Circuit}
use Rattle.gates_theory.specs.declared.circuit.Gate.{Gate}
use Rattle.gates_theory.specs.declared.circuit.Gate.TheVariants.{Free, And}
use Rattle.gates_theory.specs.Circuits.{IsSound, gate_within, gates_within}
use Rattle.gates_theory.specs.Unrolled.{up_to, moved, equality, conjunction, gate_clauses, gates_clauses, units, links, position_clauses, unrolled}
use Rattle.gates_theory.specs.Distinct.{pairs, following, differences, pair_clauses, variables_before, distinct}
use Rattle.gates_theory.specs.Sizes.{distinct_variables}
use Rattle.gates_theory.proofs.Literals.{within_is, within_from, variable-moved}
use Rattle.gates_theory.proofs.Models.{now_within}
use Rattle.gates_theory.proofs.Parts.{up_to-all}

-- what is within fewer variables is within more
wider_one : (few more : ℕ) → few ≤ more → (literal : ℤ) → IsTrue (is_within few literal) → IsTrue (is_within more literal)
wider_one few more order literal within = let parts = within_is few literal within in within_from more literal parts.0 (omega (arith, parts.1))

pub wider : (few more : ℕ) → few ≤ more → (clause : List ℤ) → IsTrue (clause_within few clause) → IsTrue (clause_within more clause)
wider few more order [] within = refl
wider few more order (literal ∷ literals) within =
    let parts = and_parts (is_within few literal) (clause_within few literals) within in
    and_from (is_within more literal) (clause_within more literals) (wider_one few more order literal parts.0) (wider few more order literals parts.1)

pub wider_all : (few more : ℕ) → few ≤ more → (clauses : List (List ℤ)) → IsTrue (clauses_within few clauses) → IsTrue (clauses_within more clauses)
wider_all few more order [] within = refl
wider_all few more order (clause ∷ clauses) within =
    let parts = and_parts (clause_within few clause) (clauses_within few clauses) within in
    and_from (clause_within more clause) (clauses_within more clauses) (wider few more order clause parts.0) (wider_all few more order clauses parts.1)

pub both_within : (n : ℕ) (front back : List (List ℤ)) → IsTrue (clauses_within n front) → IsTrue (clauses_within n back) → IsTrue (clauses_within n (front ++ back))
both_within n front back first second = list_all-append (clause_within n) front back ∙ and_from (clauses_within n front) (clauses_within n back) first second

-- literals, negated and moved
pub negated_within : (n : ℕ) (literal : ℤ) → IsTrue (is_within n literal) → IsTrue (is_within n (neg_ℤ literal))
negated_within n (pos zero) within = within
negated_within n (pos (suc k)) within = within
negated_within n (negsuc k) within = within

pub moved_within : (size base n : ℕ) (literal : ℤ) → IsTrue (is_within size literal) → base + size ≤ n → IsTrue (is_within n (moved base literal))
moved_within size base n literal within fits =
    let parts = within_is size literal within in
    within_from n (moved base literal) (omega (arith, variable-moved base literal, parts.0)) (omega (arith, variable-moved base literal, parts.1))

one : (n : ℕ) (a : ℤ) → IsTrue (is_within n a) → IsTrue (clause_within n (a ∷ []))
one n a first = and_from (is_within n a) (clause_within n []) first refl

two : (n : ℕ) (a b : ℤ) → IsTrue (is_within n a) → IsTrue (is_within n b) → IsTrue (clause_within n (a ∷ b ∷ []))
two n a b first second = and_from (is_within n a) (clause_within n (b ∷ [])) first (one n b second)

three : (n : ℕ) (a b c : ℤ) → IsTrue (is_within n a) → IsTrue (is_within n b) → IsTrue (is_within n c) → IsTrue (clause_within n (a ∷ b ∷ c ∷ []))
three n a b c first second third = and_from (is_within n a) (clause_within n (b ∷ c ∷ [])) first (two n b c second third)

conjunction-within : (n : ℕ) (c a b : ℤ) → IsTrue (is_within n c) → IsTrue (is_within n a) → IsTrue (is_within n b) → IsTrue (clauses_within n (conjunction c a b))
conjunction-within n c a b result first second =
    and_from (clause_within n (neg_ℤ c ∷ a ∷ [])) _ (two n (neg_ℤ c) a (negated_within n c result) first)
    (and_from (clause_within n (neg_ℤ c ∷ b ∷ [])) _ (two n (neg_ℤ c) b (negated_within n c result) second)
    (and_from (clause_within n (c ∷ neg_ℤ a ∷ neg_ℤ b ∷ [])) _ (three n c (neg_ℤ a) (neg_ℤ b) result (negated_within n a first) (negated_within n b second)) refl))

equality-within : (n : ℕ) (a b : ℤ) → IsTrue (is_within n a) → IsTrue (is_within n b) → IsTrue (clauses_within n (equality a b))
equality-within n a b first second =
    and_from (clause_within n (neg_ℤ a ∷ b ∷ [])) _ (two n (neg_ℤ a) b (negated_within n a first) second)
    (and_from (clause_within n (a ∷ neg_ℤ b ∷ [])) _ (two n a (neg_ℤ b) first (negated_within n b second)) refl)

-- the parts of an unrolled circuit
gates-within : (n base before : ℕ) (gates : List Gate) → IsTrue (gates_within before gates) → base + before + length gates ≤ n → IsTrue (clauses_within n (gates_clauses base before gates))
gates-within n base before [] within fits = refl
gates-within n base before (gate ∷ gates) within fits =
    let parts = and_parts (gate_within before gate) (gates_within (suc before) gates) within in
    both_within n (gate_clauses base before gate) (gates_clauses base (suc before) gates) (here gate parts.0) (gates-within n base (suc before) gates parts.1 (omega arith))
  where
    here : (gate : Gate) → IsTrue (gate_within before gate) → IsTrue (clauses_within n (gate_clauses base before gate))
    here Free named = refl
    here (And first second) named =
        let parts = and_parts (is_within before first) (is_within before second) named in
        conjunction-within n (pos (base + suc before)) (moved base first) (moved base second)
        (within_from n (pos (base + suc before)) (omega arith) (omega arith))
        (moved_within before base n first parts.0 (omega arith)) (moved_within before base n second parts.1 (omega arith))

units-within : (n size base : ℕ) (literals : List ℤ) → IsTrue (clause_within size literals) → base + size ≤ n → IsTrue (clauses_within n (units base literals))
units-within n size base [] within fits = refl
units-within n size base (literal ∷ literals) within fits =
    let parts = and_parts (is_within size literal) (clause_within size literals) within in
    and_from (clause_within n (moved base literal ∷ [])) (clauses_within n (units base literals))
    (one n (moved base literal) (moved_within size base n literal parts.0 fits)) (units-within n size base literals parts.1 fits)

links-within : (n size high low : ℕ) (literals others : List ℤ) → IsTrue (clause_within size literals) → IsTrue (clause_within size others) → high + size ≤ n → low + size ≤ n →
    IsTrue (clauses_within n (links high low literals others))
links-within n size high low [] others here there fits_high fits_low = refl
links-within n size high low (literal ∷ literals) [] here there fits_high fits_low = refl
links-within n size high low (literal ∷ literals) (other ∷ others) here there fits_high fits_low =
    let now = and_parts (is_within size literal) (clause_within size literals) here in
    let next = and_parts (is_within size other) (clause_within size others) there in
    both_within n (equality (moved high literal) (moved low other)) (links high low literals others)
    (equality-within n (moved high literal) (moved low other) (moved_within size high n literal now.0 fits_high) (moved_within size low n other next.0 fits_low))
    (links-within n size high low literals others now.1 next.1 fits_high fits_low)

position-within : (c : Circuit) (n i : ℕ) → IsSound c → suc i * length c.gates ≤ n → IsTrue (clauses_within n (position_clauses c i))
position-within c n zero sound fits = gates-within n 0 0 c.gates sound.gates (omega (arith, suc-mul 0 (length c.gates)))
position-within c n (suc i) sound fits =
    let g = length c.gates in
    let high = suc i * g in
    let low = i * g in
    let fits_high : high + g ≤ n = omega (arith, suc-mul (suc i) g) in
    let fits_low : low + g ≤ n = omega (arith, suc-mul i g) in
    both_within n (units low c.hold ++ links high low c.now c.next) (gates_clauses high 0 c.gates)
    (both_within n (units low c.hold) (links high low c.now c.next) (units-within n g low c.hold sound.hold fits_low)
    (links-within n g high low c.now c.next (now_within c sound) sound.next fits_high fits_low))
    (gates-within n high 0 c.gates sound.gates (omega arith))

-- the clauses at a position are within the variables of the positions up to it
pub position_variables : (c : Circuit) (positions i : ℕ) → IsSound c → i < positions → IsTrue (clauses_within (positions * length c.gates) (position_clauses c i))
position_variables c positions i sound below = position-within c (positions * length c.gates) i sound (mul-le-mul_right (length c.gates) below)

pub unrolled-within : (c : Circuit) (positions : ℕ) → IsSound c → IsTrue (clauses_within (positions * length c.gates) (unrolled c positions))
unrolled-within c positions sound = up_to-all (clause_within (positions * length c.gates)) positions (position_clauses c) (λ i below. position_variables c positions i sound below)

-- the clauses that states are different
pub following-within : (n variables count : ℕ) → variables + count ≤ n → IsTrue (clause_within n (following variables count))
following-within n variables zero fits = refl
following-within n variables (suc count) fits =
    and_from (is_within n (pos (suc variables))) (clause_within n (following (suc variables) count)) (within_from n (pos (suc variables)) (omega arith) (omega arith))
    (following-within n (suc variables) count (omega arith))

differences-within : (n size variables low high : ℕ) (literals : List ℤ) → IsTrue (clause_within size literals) → low + size ≤ n → high + size ≤ n → variables + length literals ≤ n →
    IsTrue (clauses_within n (differences variables low high literals))
differences-within n size variables low high [] within fits_low fits_high fits = refl
differences-within n size variables low high (literal ∷ literals) within fits_low fits_high fits =
    let parts = and_parts (is_within size literal) (clause_within size literals) within in
    let a = moved low literal in
    let b = moved high literal in
    let here = moved_within size low n literal parts.0 fits_low in
    let there = moved_within size high n literal parts.0 fits_high in
    let fresh = within_from n (negsuc variables) (omega arith) (omega arith) in
    and_from (clause_within n (negsuc variables ∷ a ∷ b ∷ [])) _ (three n (negsuc variables) a b fresh here there)
    (and_from (clause_within n (negsuc variables ∷ neg_ℤ a ∷ neg_ℤ b ∷ [])) _ (three n (negsuc variables) (neg_ℤ a) (neg_ℤ b) fresh (negated_within n a here) (negated_within n b there))
    (differences-within n size (suc variables) low high literals parts.1 fits_low fits_high (omega arith)))

pub pair-within : (c : Circuit) (n variables earlier later : ℕ) → IsSound c → suc earlier * length c.gates ≤ n → suc later * length c.gates ≤ n → variables + length c.now ≤ n →
    IsTrue (clauses_within n (pair_clauses c variables earlier later))
pair-within c n variables earlier later sound fits_earlier fits_later fits =
    let g = length c.gates in
    both_within n (differences variables (earlier * g) (later * g) c.now) (following variables (length c.now) ∷ [])
    (differences-within n g variables (earlier * g) (later * g) c.now (now_within c sound) (omega (arith, suc-mul earlier g)) (omega (arith, suc-mul later g)) fits)
    (and_from (clause_within n (following variables (length c.now))) (clauses_within n []) (following-within n variables (length c.now) fits) refl)

-- how many pairs come before
pub pairs_more : (few more : ℕ) → few ≤ more → pairs few ≤ pairs more
pairs_more few zero order = let e : few ≡ 0 = omega arith in rw e (omega arith)
pairs_more few (suc more) order = elim (cases_lt few (suc more)) [
  | inl below ↦ omega (arith, pairs_more few more (omega arith))
  | inr above ↦ let e : few ≡ suc more = omega arith in rw e (omega arith)
]

-- the variables of a pair end where those of the next one begin
pub before_next : (c : Circuit) (variables earlier later : ℕ) → variables_before c variables (suc earlier) later ≡ variables_before c variables earlier later + length c.now
before_next c variables earlier later =
    let s = length c.now in
    let e : pairs later + suc earlier ≡ suc (pairs later + earlier) = omega arith in
    omega (arith, suc-mul (pairs later + earlier) s, ap (λ k. k * s) e)

pub before_row : (c : Circuit) (variables later : ℕ) → variables_before c variables later later ≡ variables_before c variables 0 (suc later)
before_row c variables later =
    let e : pairs later + later ≡ pairs (suc later) + 0 = omega arith in ap (λ k. variables + k * length c.now) e

pub before_more : (c : Circuit) (variables earlier later positions : ℕ) → earlier < later → later < positions →
    variables_before c variables earlier later + length c.now ≤ variables_before c variables 0 positions
before_more c variables earlier later positions order below =
    let s = length c.now in
    let few : suc (pairs later + earlier) ≤ pairs positions + 0 = omega (arith, pairs_more (suc later) positions below) in
    omega (arith, suc-mul (pairs later + earlier) s, mul-le-mul_right s few)

pub before_row_more : (c : Circuit) (variables earlier count later : ℕ) → earlier < count →
    variables_before c variables earlier later + length c.now ≤ variables_before c variables count later
before_row_more c variables earlier count later order =
    let s = length c.now in
    let few : suc (pairs later + earlier) ≤ pairs later + count = omega arith in
    omega (arith, suc-mul (pairs later + earlier) s, mul-le-mul_right s few)

-- the clauses of the first so many pairs of a position, and of all pairs below a position
pub row-within : (c : Circuit) (n variables count later : ℕ) → IsSound c → count ≤ later → suc later * length c.gates ≤ variables → variables_before c variables count later ≤ n →
    IsTrue (clauses_within n (up_to count (λ earlier. pair_clauses c (variables_before c variables earlier later) earlier later)))
row-within c n variables count later sound few fits all =
    let g = length c.gates in
    up_to-all (clause_within n) count (λ earlier. pair_clauses c (variables_before c variables earlier later) earlier later) (λ earlier below.
    let order : suc earlier ≤ suc later = omega arith in
    pair-within c n (variables_before c variables earlier later) earlier later sound
    (omega (arith, mul-le-mul_right g order)) (omega arith) (omega (arith, before_row_more c variables earlier count later below)))

pub distinct-within : (c : Circuit) (n variables positions : ℕ) → IsSound c → positions * length c.gates ≤ variables → variables_before c variables 0 positions ≤ n →
    IsTrue (clauses_within n (distinct c variables positions))
distinct-within c n variables positions sound fits all =
    let g = length c.gates in
    up_to-all (clause_within n) positions (λ later. up_to later (λ earlier. pair_clauses c (variables_before c variables earlier later) earlier later)) (λ later below.
    row-within c n variables later later sound (omega arith) (omega (arith, mul-le-mul_right g below))
    (omega (arith, before_row c variables later, rows_more later below)))
  where
    rows_more : (later : ℕ) → later < positions → variables_before c variables 0 (suc later) ≤ variables_before c variables 0 positions
    rows_more later below =
        let few : pairs (suc later) + 0 ≤ pairs positions + 0 = omega (arith, pairs_more (suc later) positions below) in
        omega (arith, mul-le-mul_right (length c.now) few)

pub distinct-all_within : (c : Circuit) (variables positions : ℕ) → IsSound c → positions * length c.gates ≤ variables →
    IsTrue (clauses_within (distinct_variables c variables positions) (distinct c variables positions))
distinct-all_within c variables positions sound fits =
    let e : pairs positions + 0 ≡ pairs positions = omega arith in
    distinct-within c (distinct_variables c variables positions) variables positions sound fits (omega (arith, ap (λ k. k * length c.now) e))
