-- Every choice of free gates goes on to all gates.
use Rattle.std.proofs.Common.{ℕ, zero, suc, Bool, cond, eqb, ◌&&◌, List, [], ◌∷◌, replicate, refl, sym, ◌∙◌, arith}
use Rattle.std.specs.Bool.{IsTrue}
use Rattle.std.proofs.lemmas.Bool.{and_from, and_parts, cond-true, cond-false, eq-eqb, ne_eqb}
use Rattle.clauses.specs.Literals.{is_within}
use Rattle.clauses.specs.Models.{Assignment, is_true}
use Rattle.gates_theory.specs.declared.circuit.Gate.{Gate}
use Rattle.gates_theory.specs.declared.circuit.Gate.TheVariants.{Free, And}
use Rattle.gates_theory.specs.Circuits.{AreSame, gate_within, gates_within, gate_holds, gates_hold}
use Rattle.gates_theory.proofs.Agreement.{same-fewer, same-then, same-gate, same-literal}
use Rattle.gates_theory.proofs.Parts.{same-from}

-- the variable behind so many gets the value of its gate
abbrev put : ℕ → Bool → Assignment → Assignment
put variable bit values k = cond (eqb k variable) bit (values k)

abbrev with_gate : Assignment → ℕ → Gate → Assignment
with_gate values before Free = values
with_gate values before (And first second) = put (suc before) (is_true values first && is_true values second) values

gate-same : (values : Assignment) (before : ℕ) (gate : Gate) → AreSame before (with_gate values before gate) values
gate-same values before Free k some fits = refl
gate-same values before (And first second) k some fits =
    cond-false (eqb k (suc before)) (is_true values first && is_true values second) (values k) (ne_eqb k (suc before) (λ e. omega arith))

gate-made : (values : Assignment) (before : ℕ) (gate : Gate) → IsTrue (gate_within before gate) → IsTrue (gate_holds (with_gate values before gate) before gate)
gate-made values before Free within = refl
gate-made values before (And first second) within =
    let parts = and_parts (is_within before first) (is_within before second) within in
    let new = with_gate values before (And first second) in
    let old = gate-same values before (And first second) in
    let bit = is_true values first && is_true values second in
    same-from (new (suc before)) (is_true new first && is_true new second)
    (cond-true (eqb (suc before) (suc before)) bit (values (suc before)) (eq-eqb (suc before) (suc before) refl)
    ∙ sym (rw (same-literal before new values old first parts.0, same-literal before new values old second parts.1)))

pub filled-gates : (values : Assignment) (before : ℕ) (gates : List Gate) → IsTrue (gates_within before gates) →
    (further : Assignment) × AreSame before further values × IsTrue (gates_hold further before gates)
filled-gates values before [] within = (values, λ k some fits. refl, refl)
filled-gates values before (gate ∷ gates) within =
    let parts = and_parts (gate_within before gate) (gates_within (suc before) gates) within in
    let here = with_gate values before gate in
    let rest = filled-gates here (suc before) gates parts.1 in (
      rest.0,
      same-then before rest.0 here values (same-fewer before (suc before) rest.0 here (omega arith) rest.1) (gate-same values before gate),
      and_from (gate_holds rest.0 before gate) (gates_hold rest.0 (suc before) gates)
          (same-gate before rest.0 here rest.1 gate parts.0 ∙ gate-made values before gate parts.0) rest.2,
    )

-- free gates hold
pub frees-hold : (values : Assignment) (before count : ℕ) → IsTrue (gates_hold values before (replicate count Free))
frees-hold values before zero = refl
frees-hold values before (suc count) = frees-hold values (suc before) count

pub frees-within : (before count : ℕ) → IsTrue (gates_within before (replicate count Free))
frees-within before zero = refl
frees-within before (suc count) = frees-within (suc before) count
