use Rattle.clause_text.proofs.Numerals.{no_literal_minus}
use Rattle.clause_text.proofs.numbers.literal.Goals as goal

pub returns-in-None-clause_number-clause-none : goal.returns-in-None-clause_number-clause-none
returns-in-None-clause_number-clause-none c = λ literal some same.
    no_literal_minus c.args.text.now c.in-Some.digits.now literal c.in-Some.ensures.some c.in-None-clause_number.ensures.none some same
