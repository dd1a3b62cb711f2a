use Rattle.std.proofs.Common.{refl, arith}
use Rattle.std.proofs.lemmas.Fmt.{decimal_digit}
use Rattle.trace_buses.proofs.laws.examples_law.Goals as goal

pub returns : goal.returns
returns c = record {
  joins = rw (decimal_digit 1 (omega arith), decimal_digit 0 (omega arith)) refl;
  rises = rw (decimal_digit 5 (omega arith), decimal_digit 4 (omega arith)) refl;
  has_hole = rw (decimal_digit 2 (omega arith), decimal_digit 1 (omega arith)) refl;
  is_taken = refl;
  is_hidden = rw (decimal_digit 1 (omega arith), decimal_digit 0 (omega arith)) refl;
}
