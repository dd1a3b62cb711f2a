-- Variables in use before the pairs of a position.
use Rattle.std.proofs.Common.{ℕ, suc, ◌+◌, ◌*◌, ◌<◌, ◌≤◌, length, arith, mul-le-mul_right}
use Rattle.gates_theory.specs.declared.circuit.Circuit.{Circuit}
use Rattle.gates_theory.specs.Distinct.{pairs, variables_before}
use Rattle.gates_theory.proofs.Within.{pairs_more}

pub rows-more : (c : Circuit) (variables later positions : ℕ) → later < positions → variables_before c variables 0 (suc later) ≤ variables_before c variables 0 positions
rows-more c variables later positions below =
    let few : pairs (suc later) + 0 ≤ pairs positions + 0 = omega (arith, pairs_more (suc later) positions below) in
    omega (arith, mul-le-mul_right (length c.now) few)

pub position-fits : (size count i variables : ℕ) → i < count → count * size ≤ variables → suc i * size ≤ variables
position-fits size count i variables below fits = omega (arith, mul-le-mul_right size below)
