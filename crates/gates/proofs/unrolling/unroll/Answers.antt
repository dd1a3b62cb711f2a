use Rattle.std.proofs.Common.{arith}
use Rattle.gates_theory.proofs.Models.{model-path, path-model}
use Rattle.gates_theory.proofs.Within.{unrolled-within}
use Rattle.gates.proofs.unrolling.unroll.Goals as goal

pub invariant_of-result : goal.invariant_of-result
invariant_of-result c = record {
  few = omega (arith, c.in_ok-variables.ensures.ok, c.in_ok-variables.ensures.fits.few_variables);
  within = rw (c.in_ok-variables.ensures.ok, c.in_ok-clauses.ensures.clauses) (unrolled-within c.args.circuit.now c.args.positions c.requires);
}

pub returns-clause-models : goal.returns-clause-models
returns-clause-models c = λ values.
    let circuit = c.args.circuit.now in
    rw c.in_ok-clauses.ensures.clauses (model-path circuit c.args.positions values c.requires, path-model circuit c.args.positions values c.requires)
