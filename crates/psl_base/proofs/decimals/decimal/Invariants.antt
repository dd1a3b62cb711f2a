use Rattle.std.proofs.Common.{◌≡◌, ◌≤◌, drop}
use Rattle.std.specs.List.{list_all}
use Rattle.psl_base.specs.Bytes.{is_digit}
use Rattle.psl_base.specs.Decimals.{number_after}
use Rattle.psl_base.proofs.decimals.decimal.Given as goal

abbrev pub invariant-loop-byte : goal.invariant-loop-byte
invariant-loop-byte l = record {
  same : number_after l.number (drop l.byte-index l.text) ≡ number_after 0 l.text;
  fits : l.number ≤ l.most;
  digits : list_all is_digit l.text ≡ list_all is_digit (drop l.byte-index l.text);
}
