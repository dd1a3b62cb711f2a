use Rattle.std.proofs.Common.{sym, ap, inl, inr, ℕ, Some, None, refl, arith}
use Rattle.clauses.specs.declared.flat.TheConstants.{MOST_VARIABLES}
use Rattle.clause_text.proofs.Numerals.{decimal_of_plain, not_read, number_from}
use Rattle.clause_text.proofs.numbers.clause_number.Goals as goal

pub returns-in-Some-eq0-clause-none : goal.returns-in-Some-eq0-clause-none
returns-in-Some-eq0-clause-none c = λ number some same.
    let is = rw c.from.ensures at c.in-Some-eq0.ensures.is in
    not_read c.args.text.now number (Some c.in-Some-eq0.field-0) is (inr (ap (λ (n : ℕ). Some n) c.in-Some-eq0.field-0-test)) some same

pub returns-in-Some-clause-some : goal.returns-in-Some-clause-some
returns-in-Some-clause-some c =
    let is = rw c.from.ensures at c.in-Some.ensures.is in
    let read = decimal_of_plain MOST_VARIABLES c.in-Some.number c.args.text.now (omega arith) (sym is) in
    (number_from c.in-Some.number c.in-Some.number-test.1 read.1, read.0)

pub returns-in-None-clause-none : goal.returns-in-None-clause-none
returns-in-None-clause-none c = λ number some same.
    let is = rw c.from.ensures at c.in-None.ensures.is in
    not_read c.args.text.now number None is (inl refl) some same
