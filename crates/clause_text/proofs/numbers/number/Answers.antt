use Rattle.std.proofs.Common.{sym, ◌∙◌, ap, arith}
use Rattle.std.proofs.lemmas.Option.{none-some}
use Rattle.psl_base.specs.Decimals.{plain_upto}
use Rattle.clauses.specs.declared.flat.TheConstants.{MOST_VARIABLES}
use Rattle.clause_text.proofs.Numerals.{decimal_of_plain, plain_of_decimal}
use Rattle.clause_text.proofs.numbers.number.Goals as goal

pub returns-in-Some-clause-some : goal.returns-in-Some-clause-some
returns-in-Some-clause-some c =
    let is = rw c.from.ensures at c.in-Some.ensures.is in
    let read = decimal_of_plain MOST_VARIABLES c.in-Some.number c.args.text.now (omega arith) (sym is) in
    (read.1, read.0)

pub returns-in-None-clause-none : goal.returns-in-None-clause-none
returns-in-None-clause-none c = λ number few same.
    let is = rw c.from.ensures at c.in-None.ensures.is in
    none-some number (is ∙ ap (plain_upto MOST_VARIABLES) same ∙ plain_of_decimal MOST_VARIABLES number (omega arith) few)
