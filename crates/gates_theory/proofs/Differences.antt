-- Clauses that say that the states at two positions are different.
use Rattle.std.proofs.Common.{◌≡◌, inl, inr, ℕ, suc, ◌+◌, ◌-◌, ◌*◌, ◌<◌, ◌≤◌, ℤ, Bool, true, false, not, cond, ◌&&◌, ◌||◌, leb, List, [], ◌∷◌, map, length, get_or, refl, sym, ap, ◌∙◌, arith}
use Rattle.std.specs.Bool.{IsTrue}
use Rattle.std.specs.List.{list_any}
use Rattle.std.proofs.lemmas.Bool.{and_from, and_parts, or_parts, le-leb, lt-leb, cond-true, cond-false, cases_Bool, true≢false}
use Rattle.std.proofs.lemmas.List.Folds.{list_all-append}
use Rattle.clauses.specs.Literals.{is_within, clause_within}
use Rattle.clauses.specs.Models.{Assignment, is_true, meets}
use Rattle.gates_theory.specs.declared.circuit.Circuit.{Circuit}
use Rattle.gates_theory.specs.Circuits.{IsSound, AreSame, same, state_of, literal_values}
use Rattle.gates_theory.specs.Unrolled.{moved, positions_of}
use Rattle.gates_theory.specs.Distinct.{following, differences, pair_clauses}
use Rattle.gates_theory.proofs.Literals.{shifted, true-neg, true-moved, some_moved}
use Rattle.gates_theory.proofs.Parts.{meets_all, same-is}
use Rattle.gates_theory.proofs.Models.{now_within}
use Rattle.gates_theory.proofs.Agreement.{same-literal, same-values, same-fewer, same-shifted}

-- the clauses of one literal, by the values of its variable and of the literal at both positions
abbrev apart : Bool → Bool → Bool → Bool → Bool
apart fresh low high rest = (not fresh || (low || (high || false))) && ((not fresh || (not low || (not high || false))) && rest)

no_difference : (fresh low high rest some : Bool) → IsTrue (apart fresh low high rest) → low ≡ high → IsTrue (fresh || some) → IsTrue some × IsTrue rest
no_difference false low high rest some met equal one = (one, met)
no_difference true true true rest some met equal one = absurd (true≢false (sym met))
no_difference true true false rest some met equal one = absurd (true≢false equal)
no_difference true false true rest some met equal one = absurd (true≢false (sym equal))
no_difference true false false rest some met equal one = absurd (true≢false (sym met))

difference : (low high rest : Bool) → apart (not (same low high)) low high rest ≡ rest
difference true true rest = refl
difference true false rest = refl
difference false true rest = refl
difference false false rest = refl

-- whether a literal has different values at two positions
abbrev pub differs : Assignment → ℕ → ℕ → ℤ → Bool
differs values low high literal = not (same (is_true (shifted low values) literal) (is_true (shifted high values) literal))

-- the variables behind so many tell where literals have different values
abbrev pub Tells : Assignment → ℕ → ℕ → ℕ → List ℤ → Type 0
Tells values low high variables literals =
    (m : ℕ) → m < length literals → values (suc (variables + m)) ≡ get_or (map (differs values low high) literals) m false

module _ (values : Assignment) (size low high : ℕ) where
  -- the clauses of the first literal and those of the others
  first-met : (variables : ℕ) (literal : ℤ) (literals : List ℤ) → IsTrue (is_within size literal) →
      meets_all values (differences variables low high (literal ∷ literals))
      ≡ apart (values (suc variables)) (is_true (shifted low values) literal) (is_true (shifted high values) literal) (meets_all values (differences (suc variables) low high literals))
  first-met variables literal literals within =
      rw (
        true-neg values (moved low literal) (some_moved size low literal within),
        true-neg values (moved high literal) (some_moved size high literal within),
        true-moved values low literal,
        true-moved values high literal,
      )

  -- where one of the variables is true, the literals have different values
  pub differences-apart : (variables : ℕ) (literals : List ℤ) → IsTrue (clause_within size literals) → IsTrue (meets_all values (differences variables low high literals)) →
      IsTrue (meets values (following variables (length literals))) → literal_values (shifted low values) literals ≡ literal_values (shifted high values) literals → ⊥
  differences-apart variables [] within met some equal = true≢false (sym some)
  differences-apart variables (literal ∷ literals) within met some equal =
      let parts = and_parts (is_within size literal) (clause_within size literals) within in
      let here : is_true (shifted low values) literal ≡ is_true (shifted high values) literal = cc in
      let there : literal_values (shifted low values) literals ≡ literal_values (shifted high values) literals = cc in
      let left = no_difference (values (suc variables)) (is_true (shifted low values) literal) (is_true (shifted high values) literal)
      (meets_all values (differences (suc variables) low high literals)) (meets values (following (suc variables) (length literals)))
      (sym (first-met variables literal literals parts.0) ∙ met) here some in
      differences-apart (suc variables) literals parts.1 left.1 left.0 there

  tells-first : (variables : ℕ) (literal : ℤ) (literals : List ℤ) → Tells values low high variables (literal ∷ literals) → values (suc variables) ≡ differs values low high literal
  tells-first variables literal literals tells =
      let e : suc (variables + 0) ≡ suc variables = omega arith in ap values (sym e) ∙ tells 0 (omega arith)

  tells-rest : (variables : ℕ) (literal : ℤ) (literals : List ℤ) → Tells values low high variables (literal ∷ literals) → Tells values low high (suc variables) literals
  tells-rest variables literal literals tells m below =
      let e : suc (variables + suc m) ≡ suc (suc variables + m) = omega arith in ap values (sym e) ∙ tells (suc m) (omega arith)

  pub differences-met : (variables : ℕ) (literals : List ℤ) → IsTrue (clause_within size literals) → Tells values low high variables literals → IsTrue (meets_all values (differences variables low high literals))
  differences-met variables [] within tells = refl
  differences-met variables (literal ∷ literals) within tells =
      let parts = and_parts (is_within size literal) (clause_within size literals) within in
      first-met variables literal literals parts.0
      ∙ ap (λ d. apart d (is_true (shifted low values) literal) (is_true (shifted high values) literal) (meets_all values (differences (suc variables) low high literals)))
      (tells-first variables literal literals tells)
      ∙ difference (is_true (shifted low values) literal) (is_true (shifted high values) literal) (meets_all values (differences (suc variables) low high literals))
      ∙ differences-met (suc variables) literals parts.1 (tells-rest variables literal literals tells)

  pub following-met : (variables : ℕ) (literals : List ℤ) → Tells values low high variables literals → meets values (following variables (length literals)) ≡ list_any (differs values low high) literals
  following-met variables [] tells = refl
  following-met variables (literal ∷ literals) tells =
      rw (tells-first variables literal literals tells, following-met (suc variables) literals (tells-rest variables literal literals tells))

  -- where none differs, the values are the same
  pub none-differs : (literals : List ℤ) → list_any (differs values low high) literals ≡ false → literal_values (shifted low values) literals ≡ literal_values (shifted high values) literals
  none-differs [] none = refl
  none-differs (literal ∷ literals) none =
      let parts = or_parts (differs values low high literal) (list_any (differs values low high) literals) none in
      let here = same-is (is_true (shifted low values) literal) (is_true (shifted high values) literal) (not_false (same (is_true (shifted low values) literal) (is_true (shifted high values) literal)) parts.0) in
      rw (here, none-differs literals parts.1)
    where
      not_false : (b : Bool) → not b ≡ false → b ≡ true
      not_false true e = refl
      not_false false e = sym e

  pub some-differs : (literals : List ℤ) → (literal_values (shifted low values) literals ≡ literal_values (shifted high values) literals → ⊥) → IsTrue (list_any (differs values low high) literals)
  some-differs literals unequal = elim (cases_Bool (list_any (differs values low high) literals)) [
    | inl found ↦ found
    | inr none ↦ absurd (unequal (none-differs literals none))
  ]

-- values of the variables behind so many: where literals have different values
abbrev filled : Assignment → ℕ → ℕ → ℕ → List ℤ → Assignment
filled values variables low high literals k =
    cond (leb k variables) (values k) (get_or (map (differs values low high) literals) (k - suc variables) false)

filled-old : (values : Assignment) (variables low high : ℕ) (literals : List ℤ) → AreSame variables (filled values variables low high literals) values
filled-old values variables low high literals k some fits =
    cond-true (leb k variables) (values k) (get_or (map (differs values low high) literals) (k - suc variables) false) (le-leb k variables fits)

filled-new : (values : Assignment) (variables low high : ℕ) (literals : List ℤ) (m : ℕ) →
    filled values variables low high literals (suc (variables + m)) ≡ get_or (map (differs values low high) literals) m false
filled-new values variables low high literals m =
    let k = suc (variables + m) in
    let e : k - suc variables ≡ m = omega arith in
    cond-false (leb k variables) (values k) (get_or (map (differs values low high) literals) (k - suc variables) false) (lt-leb k variables (omega arith))
    ∙ ap (λ n. get_or (map (differs values low high) literals) n false) e

differs-same : (size low high : ℕ) (v w : Assignment) (literals : List ℤ) → AreSame (low + size) v w → AreSame (high + size) v w → IsTrue (clause_within size literals) →
    map (differs v low high) literals ≡ map (differs w low high) literals
differs-same size low high v w [] agree_low agree_high within = refl
differs-same size low high v w (literal ∷ literals) agree_low agree_high within =
    let parts = and_parts (is_within size literal) (clause_within size literals) within in
    rw (
      same-literal size (shifted low v) (shifted low w) (same-shifted low size v w agree_low) literal parts.0,
      same-literal size (shifted high v) (shifted high w) (same-shifted high size v w agree_high) literal parts.0,
      differs-same size low high v w literals agree_low agree_high parts.1,
    )

-- where the states are different, values of further variables say so
pub pair-fills : (c : Circuit) (values : Assignment) (variables earlier later : ℕ) → IsSound c → earlier * length c.gates + length c.gates ≤ variables → later * length c.gates + length c.gates ≤ variables →
    (state_of c (positions_of c values earlier) ≡ state_of c (positions_of c values later) → ⊥) →
    (further : Assignment) × AreSame variables further values × IsTrue (meets_all further (pair_clauses c variables earlier later))
pair-fills c values variables earlier later sound fits_earlier fits_later unequal =
    let g = length c.gates in
    let low = earlier * g in
    let high = later * g in
    let within = now_within c sound in
    let further = filled values variables low high c.now in
    let old : AreSame variables further values = filled-old values variables low high c.now in
    let equal : map (differs further low high) c.now ≡ map (differs values low high) c.now =
    differs-same g low high further values c.now (same-fewer (low + g) variables further values fits_earlier old) (same-fewer (high + g) variables further values fits_later old) within in
    let tells : Tells further low high variables c.now = λ m below. filled-new values variables low high c.now m ∙ ap (λ ds. get_or ds m false) (sym equal) in
    let some : IsTrue (list_any (differs further low high) c.now) = some-differs further g low high c.now (λ same_states. unequal
    (sym (same-values g (shifted low further) (shifted low values) (same-shifted low g further values (same-fewer (low + g) variables further values fits_earlier old)) c.now within)
    ∙ same_states
    ∙ same-values g (shifted high further) (shifted high values) (same-shifted high g further values (same-fewer (high + g) variables further values fits_later old)) c.now within)) in (
      further,
      old,
      list_all-append (meets further) (differences variables low high c.now) (following variables (length c.now) ∷ [])
          ∙ and_from (meets_all further (differences variables low high c.now)) (meets_all further (following variables (length c.now) ∷ []))
          (differences-met further g low high variables c.now within tells)
          (and_from (meets further (following variables (length c.now))) (meets_all further []) (following-met further g low high variables c.now tells ∙ some) refl),
    )

-- the clauses of a pair say that the states are different
pub pair-apart : (c : Circuit) (values : Assignment) (variables earlier later : ℕ) → IsSound c → IsTrue (meets_all values (pair_clauses c variables earlier later)) →
    state_of c (positions_of c values earlier) ≡ state_of c (positions_of c values later) → ⊥
pair-apart c values variables earlier later sound met equal =
    let g = length c.gates in
    let parts = and_parts (meets_all values (differences variables (earlier * g) (later * g) c.now)) (meets_all values (following variables (length c.now) ∷ []))
    (sym (list_all-append (meets values) (differences variables (earlier * g) (later * g) c.now) (following variables (length c.now) ∷ [])) ∙ met) in
    let some = and_parts (meets values (following variables (length c.now))) (meets_all values []) parts.1 in
    differences-apart values g (earlier * g) (later * g) variables c.now (now_within c sound) parts.0 some.0 equal
