-- One assignment of the values at all positions.
use Rattle.std.proofs.Common.{◌≡◌, ℕ, zero, suc, ◌+◌, ◌-◌, ◌*◌, ◌/◌, ◌%◌, ◌<◌, ◌≤◌, length, sym, arith}
use Rattle.std.proofs.lemmas.Nat.{div-mul-add, mod-mul-add}
use Rattle.clauses.specs.Models.{Assignment, IsModel}
use Rattle.gates_theory.specs.declared.circuit.Circuit.{Circuit}
use Rattle.gates_theory.specs.Circuits.{IsSound, IsPath, AreSame}
use Rattle.gates_theory.specs.Unrolled.{unrolled, positions_of}
use Rattle.gates_theory.proofs.Models.{path-model}
use Rattle.gates_theory.proofs.Agreement.{same-path}

-- the variable is of the position and the gate that its number tells
joined : ℕ → (ℕ → Assignment) → Assignment
joined size values variable = values ((variable - 1) / size) (suc ((variable - 1) % size))

joined-at : (size : ℕ) (values : ℕ → Assignment) (i k : ℕ) → 0 < k → k ≤ size → joined size values (i * size + k) ≡ values i k
unfolding joined
joined-at size values i zero some fits = absurd (omega arith)
joined-at size values i (suc k) some fits =
    let e : i * size + suc k - 1 ≡ i * size + k = omega arith in
    let below : k < size = omega arith in
    rw (e, div-mul-add i size k below, mod-mul-add i size k below)

joined-position : (c : Circuit) (values : ℕ → Assignment) (i : ℕ) → AreSame (length c.gates) (positions_of c (joined (length c.gates) values) i) (values i)
joined-position c values i k some fits = joined-at (length c.gates) values i k some fits

-- each path is the first part of some model
pub path-some_model : (c : Circuit) (positions : ℕ) (path : ℕ → Assignment) → IsSound c → IsPath c positions path →
    (values : Assignment) × IsModel values (unrolled c positions) × ((i : ℕ) → AreSame (length c.gates) (positions_of c values i) (path i))
path-some_model c positions path sound is =
    let values = joined (length c.gates) path in (
      values,
      path-model c positions values sound (same-path c positions path (positions_of c values) sound (λ i below k some fits. sym (joined-position c path i k some fits)) is),
      joined-position c path,
    )
