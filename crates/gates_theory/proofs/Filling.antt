-- Values of further variables for a path whose states are different.
use Rattle.std.proofs.Common.{◌≡◌, ℕ, zero, suc, ◌+◌, ◌*◌, ◌<◌, ◌≤◌, ℤ, List, ◌++◌, length, refl, sym, ◌∙◌, arith, mul-le-mul_right, suc-mul}
use Rattle.std.specs.Bool.{IsTrue}
use Rattle.std.proofs.lemmas.Bool.{and_from, and_parts}
use Rattle.std.proofs.lemmas.List.Folds.{list_all-append}
use Rattle.clauses.specs.Literals.{clauses_within}
use Rattle.clauses.specs.Models.{Assignment, IsModel, meets}
use Rattle.gates_theory.specs.declared.circuit.Circuit.{Circuit}
use Rattle.gates_theory.specs.Circuits.{IsSound, AreSame, AreDistinct, state_of}
use Rattle.gates_theory.specs.Unrolled.{up_to, positions_of}
use Rattle.gates_theory.specs.Distinct.{pairs, pair_clauses, variables_before, distinct}
use Rattle.gates_theory.proofs.Parts.{meets_all, all-up_to}
use Rattle.gates_theory.proofs.Models.{now_within}
use Rattle.gates_theory.proofs.Agreement.{same-fewer, same-then, same-met, same-values, same-shifted}
use Rattle.gates_theory.proofs.Differences.{pair-fills, pair-apart}
use Rattle.gates_theory.proofs.Within.{row-within, distinct-within}

-- the states of assignments that agree on the variables of a position
states-same : (c : Circuit) (variables i : ℕ) (v w : Assignment) → IsSound c → i * length c.gates + length c.gates ≤ variables → AreSame variables v w →
    state_of c (positions_of c v i) ≡ state_of c (positions_of c w i)
states-same c variables i v w sound fits agree =
    let g = length c.gates in
    same-values g (positions_of c v i) (positions_of c w i) (same-shifted (i * g) g v w (same-fewer (i * g + g) variables v w fits agree)) c.now (now_within c sound)

fits_at : (g positions i : ℕ) (variables : ℕ) → i < positions → positions * g ≤ variables → i * g + g ≤ variables
fits_at g positions i variables below fits = omega (arith, suc-mul i g, mul-le-mul_right g below)

-- more clauses behind others
both_met : (values : Assignment) (front back : List (List ℤ)) → IsTrue (meets_all values front) → IsTrue (meets_all values back) → IsTrue (meets_all values (front ++ back))
both_met values front back first second = list_all-append (meets values) front back ∙ and_from (meets_all values front) (meets_all values back) first second

kept_met : (variables : ℕ) (v w : Assignment) (clauses : List (List ℤ)) → AreSame variables v w → IsTrue (clauses_within variables clauses) → IsTrue (meets_all w clauses) → IsTrue (meets_all v clauses)
kept_met variables v w clauses agree within met = same-met variables v w agree clauses within ∙ met

abbrev row_of : Circuit → ℕ → ℕ → ℕ → List (List ℤ)
row_of c variables later earlier = pair_clauses c (variables_before c variables earlier later) earlier later

-- the first so many pairs of a position
row-fills : (c : Circuit) (values : Assignment) (variables positions later count : ℕ) → IsSound c → positions * length c.gates ≤ variables → later < positions → count ≤ later →
    ((earlier : ℕ) → earlier < count → state_of c (positions_of c values earlier) ≡ state_of c (positions_of c values later) → ⊥) →
    (further : Assignment) × AreSame (variables_before c variables 0 later) further values × IsTrue (meets_all further (up_to count (row_of c variables later)))
row-fills c values variables positions later zero sound fits below few unequal = (values, λ k some within. refl, refl)
row-fills c values variables positions later (suc count) sound fits below few unequal =
    let g = length c.gates in
    let old = row-fills c values variables positions later count sound fits below (omega arith) (λ earlier lower. unequal earlier (omega arith)) in
    let used = variables_before c variables count later in
    let order : pairs_first ≤ used = omega (arith, mul-le-mul_right (length c.now) pairs_order) in
    let fits_earlier = fits_at g positions count variables (omega arith) fits in
    let fits_later = fits_at g positions later variables below fits in
    let same_old : AreSame variables old.0 values = same-fewer variables pairs_first old.0 values (omega arith) old.1 in
    let new = pair-fills c old.0 used count later sound (omega (arith, fits_earlier)) (omega (arith, fits_later)) (λ equal. unequal count (omega arith)
    (sym (states-same c variables count old.0 values sound fits_earlier same_old) ∙ equal ∙ states-same c variables later old.0 values sound fits_later same_old)) in (
      new.0,
      same-then pairs_first new.0 old.0 values (same-fewer pairs_first used new.0 old.0 order new.1) old.1,
      both_met new.0 (up_to count (row_of c variables later)) (row_of c variables later count)
          (kept_met used new.0 old.0 (up_to count (row_of c variables later)) new.1
          (row-within c used variables count later sound (omega arith) (omega (arith, suc-mul later g, fits_later)) (omega arith)) old.2)
          new.2,
    )
  where
    pairs_first : ℕ
    pairs_first = variables_before c variables 0 later

    pairs_order : pairs later + 0 ≤ pairs later + count
    pairs_order = omega arith

-- the pairs below a position
distinct-fills : (c : Circuit) (values : Assignment) (variables positions count : ℕ) → IsSound c → positions * length c.gates ≤ variables → count ≤ positions → AreDistinct c count (positions_of c values) →
    (further : Assignment) × AreSame variables further values × IsTrue (meets_all further (distinct c variables count))
distinct-fills c values variables positions zero sound fits few unequal = (values, λ k some within. refl, refl)
distinct-fills c values variables positions (suc count) sound fits few unequal =
    let g = length c.gates in
    let old = distinct-fills c values variables positions count sound fits (omega arith) (λ earlier later order below. unequal earlier later order (omega arith)) in
    let used = variables_before c variables 0 count in
    let new = row-fills c old.0 variables positions count count sound fits (omega arith) (omega arith) (λ earlier below equal. unequal earlier count below (omega arith)
    (sym (states-same c variables earlier old.0 values sound (fits_at g positions earlier variables (omega arith) fits) old.1)
    ∙ equal
    ∙ states-same c variables count old.0 values sound (fits_at g positions count variables (omega arith) fits) old.1)) in (
      new.0,
      same-then variables new.0 old.0 values (same-fewer variables used new.0 old.0 (omega arith) new.1) old.1,
      both_met new.0 (distinct c variables count) (up_to count (row_of c variables count))
          (kept_met used new.0 old.0 (distinct c variables count) new.1
          (distinct-within c used variables count sound (omega (arith, mul-le-mul_right g order)) (omega arith)) old.2)
          new.2,
    )
  where
    order : count ≤ positions
    order = omega arith

-- clauses with those that the states are different: each model has different states
pub distinct-states : (c : Circuit) (variables positions : ℕ) (values : Assignment) → IsSound c → IsModel values (distinct c variables positions) → AreDistinct c positions (positions_of c values)
distinct-states c variables positions values sound model earlier later order below =
    let row = all-up_to (meets values) positions (λ l. up_to l (row_of c variables l)) model later below in
    pair-apart c values (variables_before c variables earlier later) earlier later sound (all-up_to (meets values) later (row_of c variables later) row earlier order)

pub distinct-models : (c : Circuit) (clauses : List (List ℤ)) (variables positions : ℕ) (values : Assignment) → IsSound c → IsModel values (clauses ++ distinct c variables positions) →
    IsModel values clauses × AreDistinct c positions (positions_of c values)
distinct-models c clauses variables positions values sound model =
    let parts = and_parts (meets_all values clauses) (meets_all values (distinct c variables positions)) (sym (list_all-append (meets values) clauses (distinct c variables positions)) ∙ model) in
    (parts.0, distinct-states c variables positions values sound parts.1)

-- and where they are different, values of further variables make a model
pub distinct-extends : (c : Circuit) (clauses : List (List ℤ)) (variables positions : ℕ) (values : Assignment) → IsSound c → positions * length c.gates ≤ variables →
    IsTrue (clauses_within variables clauses) → IsModel values clauses → AreDistinct c positions (positions_of c values) →
    (further : Assignment) × IsModel further (clauses ++ distinct c variables positions) × AreSame variables further values
distinct-extends c clauses variables positions values sound fits within model unequal =
    let new = distinct-fills c values variables positions positions sound fits (omega arith) unequal in
    (new.0, both_met new.0 clauses (distinct c variables positions) (kept_met variables new.0 values clauses new.1 within model) new.2, new.1)
