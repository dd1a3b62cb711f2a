use Rattle.std.proofs.Common.{refl, arith}
use Rattle.std.proofs.lemmas.Fmt.{decimal_digit}
use Rattle.trace.proofs.laws.examples_law.Goals as goal

pub returns : goal.returns
returns c = record {
  stays_low = rw (decimal_digit 0 (omega arith), decimal_digit 1 (omega arith)) refl;
  counts = rw (
    decimal_digit 0 (omega arith),
    decimal_digit 1 (omega arith),
    decimal_digit 2 (omega arith),
    decimal_digit 3 (omega arith),
    decimal_digit 4 (omega arith),
    decimal_digit 5 (omega arith),
    decimal_digit 6 (omega arith),
    decimal_digit 7 (omega arith),
  ) refl;
  begins = rw (decimal_digit 0 (omega arith), decimal_digit 1 (omega arith), decimal_digit 2 (omega arith)) refl;
  joined = rw (decimal_digit 0 (omega arith), decimal_digit 1 (omega arith), decimal_digit 3 (omega arith), decimal_digit 4 (omega arith)) refl;
  coded = (refl, refl, refl, refl, refl, refl);
  marked = (refl, refl, refl, refl, refl);
  plain = (refl, refl, refl, refl, refl);
}
