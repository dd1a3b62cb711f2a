-- The values of gates that are computed one behind another.
use Rattle.std.proofs.Common.{◌≡◌, refl, sym, ap, ◌∙◌, subst, ℕ, zero, suc, ◌+◌, ◌-◌, ◌<◌, Bool as Truth, true, false, not, ◌&&◌, List, [], ◌∷◌, ◌++◌, length, take, get_or, arith}
use mathlib.Core.Bool.{beq}
use Rattle.std.specs.Prelude.{IsTrue}
use Rattle.std.proofs.lemmas.Bool.{and_from, and_parts}
use Rattle.std.proofs.lemmas.List.{get_or_append_left, get_or-append-add, length-take, take_more}
use Rattle.clauses.specs.Literals.{is_within}
use Rattle.clauses.specs.Models.{is_true}
use Rattle.gates_theory.specs.declared.circuit.Gate.{Gate}
use Rattle.gates_theory.specs.declared.circuit.Gate.TheVariants.{Free, And}
use Rattle.gates_theory.specs.Circuits.{gate_holds, gate_within, gates_hold, gates_within, AreSame}
use Rattle.gates_theory.proofs.Agreement.{same-gates, same-literal}
use Rattle.gates_theory.proofs.Parts.{same-from}
use Rattle.gates_theory.proofs.TermValues.{gates_hold-append}
use Rattle.run_terms.specs.Formulas.{values_of}
use Rattle.joint.specs.Values.{gate_value}

-- one value more leaves the earlier ones
values-more : (values : List Truth) (b : Truth) → AreSame (length values) (values_of (values ++ b ∷ [])) (values_of values)
values-more values b zero some few = absurd (omega arith)
values-more values b (suc k) some few =
    let e : suc k - 1 ≡ k = omega arith in
    ap (λ (n : ℕ). get_or (values ++ b ∷ []) n false) e ∙ get_or_append_left values (b ∷ []) false k (omega arith)
    ∙ ap (λ (n : ℕ). get_or values n false) (sym e)

value-last : (values : List Truth) (b : Truth) (i : ℕ) → length values ≡ i → values_of (values ++ b ∷ []) (suc i) ≡ b
value-last values b i long =
    let e : suc i - 1 ≡ length values + 0 = omega (arith, long) in
    ap (λ (n : ℕ). get_or (values ++ b ∷ []) n false) e ∙ get_or-append-add values (b ∷ []) 0 false

-- each gate names earlier ones
pub gate-at : (before : ℕ) (gates : List Gate) (i : ℕ) → i < length gates → IsTrue (gates_within before gates) → IsTrue (gate_within (before + i) (get_or gates i Free))
gate-at before [] i below within = absurd (omega arith)
gate-at before (g ∷ gates) zero below within =
    let parts = and_parts (gate_within before g) (gates_within (suc before) gates) within in
    let e : before ≡ before + zero = omega arith in
    subst (λ (n : ℕ). IsTrue (gate_within n g)) e parts.0
gate-at before (g ∷ gates) (suc i) below within =
    let parts = and_parts (gate_within before g) (gates_within (suc before) gates) within in
    let e : suc before + i ≡ before + suc i = omega arith in
    subst (λ (n : ℕ). IsTrue (gate_within n (get_or gates i Free))) e (gate-at (suc before) gates i (omega arith) parts.1)

take-within : (before : ℕ) (gates : List Gate) (n : ℕ) → IsTrue (gates_within before gates) → IsTrue (gates_within before (take n gates))
take-within before gates zero within = refl
take-within before [] (suc n) within = refl
take-within before (g ∷ gates) (suc n) within =
    let parts = and_parts (gate_within before g) (gates_within (suc before) gates) within in
    and_from (gate_within before g) (gates_within (suc before) (take n gates)) parts.0 (take-within (suc before) gates n parts.1)

-- a gate has the value that was computed
one-holds : (values : List Truth) (b given : Truth) (gate : Gate) (i : ℕ) → length values ≡ i → IsTrue (gate_within i gate)
    → b ≡ gate_value (values_of values) given gate → IsTrue (gate_holds (values_of (values ++ b ∷ [])) i gate)
one-holds values b given Free i long within is = refl
one-holds values b given (And first second) i long within is =
    let v = values_of values in
    let w = values_of (values ++ b ∷ []) in
    let same : AreSame i w v = subst (λ (n : ℕ). AreSame n w v) long (values-more values b) in
    let parts = and_parts (is_within i first) (is_within i second) within in
    let one = same-literal i w v same first parts.0 in
    let two = same-literal i w v same second parts.1 in
    same-from (w (suc i)) (is_true w first && is_true w second)
    (value-last values b i long ∙ is ∙ ap (λ (t : Truth). t && is_true v second) (sym one) ∙ ap (λ (t : Truth). is_true w first && t) (sym two))

-- one gate more
pub holds-more : (values : List Truth) (b given : Truth) (gates : List Gate) (i : ℕ) → i < length gates → IsTrue (gates_within 0 gates)
    → length values ≡ i → b ≡ gate_value (values_of values) given (get_or gates i Free) → IsTrue (gates_hold (values_of values) 0 (take i gates))
    → IsTrue (gates_hold (values_of (values ++ b ∷ [])) 0 (take (i + 1) gates))
holds-more values b given gates i below within long is hold =
    let gate = get_or gates i Free in
    let v = values_of values in
    let w = values_of (values ++ b ∷ []) in
    let same : AreSame i w v = subst (λ (n : ℕ). AreSame n w v) long (values-more values b) in
    let size : i ≡ 0 + length (take i gates) = omega (arith, length-take i gates) in
    let here : IsTrue (gate_within i gate) =
    (let e : 0 + i ≡ i = omega arith in subst (λ (n : ℕ). IsTrue (gate_within n gate)) e (gate-at 0 gates i below within)) in
    ap (gates_hold w 0) (take_more gates i Free below)
    ∙ gates_hold-append w 0 i (take i gates) (gate ∷ []) size
    ∙ and_from (gates_hold w 0 (take i gates)) (gates_hold w i (gate ∷ []))
    (same-gates 0 w v (take i gates) (subst (λ (n : ℕ). AreSame n w v) size same) (take-within 0 gates i within) ∙ hold)
    (and_from (gate_holds w i gate) true (one-holds values b given gate i long here is) refl)

-- two values that are not different
pub beq-same : (a b : Truth) → not (beq a b) ≡ false → a ≡ b
beq-same true true h = refl
beq-same true false h = h
beq-same false true h = sym h
beq-same false false h = refl
