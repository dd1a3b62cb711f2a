use Rattle.std.proofs.Common.{inr, arith}
use Rattle.gates_theory.proofs.Sizes.{unrolled-words}
use Rattle.gates.proofs.sizes.unrolled_variables.Goals as goal

pub returns-then-unrolled_words-clause-large : goal.returns-then-unrolled_words-clause-large
returns-then-unrolled_words-clause-large c =
    inr (omega (arith, c.if-unrolled_words.true, c.unrolled_words.ensures, unrolled-words c.args.circuit.now c.args.positions c.requires))

pub returns-clause-fits : goal.returns-clause-fits
returns-clause-fits c =
    let variables = rw c.len.ensures at c.times-variables.ensures.is in
    record {
      few_variables = omega (arith, variables, c.if-variables-from.false, c.from.ensures);
      few_words = omega (arith, c.if-unrolled_words.false, c.unrolled_words.ensures, unrolled-words c.args.circuit.now c.args.positions c.requires);
    }
