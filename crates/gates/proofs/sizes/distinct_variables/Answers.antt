use Rattle.std.proofs.Common.{inr, arith}
use Rattle.gates.proofs.Words.{distinct-total}
use Rattle.gates.proofs.sizes.distinct_variables.Goals as goal

pub returns-then-bits-count-clause-large : goal.returns-then-bits-count-clause-large
returns-then-bits-count-clause-large c =
    let cnf = c.args.cnf.now in
    let words = rw (c.from-count.ensures, c.pairs.ensures, c.len.ensures) at c.if-bits-count.true in
    inr (omega (arith, words, c.words.ensures.is, distinct-total c.args.circuit.now cnf.clauses cnf.variables c.args.positions))

pub returns-clause-fits : goal.returns-clause-fits
returns-clause-fits c =
    let cnf = c.args.cnf.now in
    let variables = rw (c.from-count.ensures, c.pairs.ensures, c.len.ensures) at c.if-bits-from.false in
    let words = rw (c.from-count.ensures, c.pairs.ensures, c.len.ensures) at c.if-bits-count.false in
    record {
      few_variables = omega (arith, variables, c.from.ensures, cnf.few);
      few_words = omega (arith, words, c.words.ensures.is, distinct-total c.args.circuit.now cnf.clauses cnf.variables c.args.positions);
    }
