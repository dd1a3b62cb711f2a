use Rattle.std.proofs.Common.{◌≡◌, ◌<◌, ◌^◌, drop}
use Rattle.psl_lexer.specs.Values.{value_after}
use Rattle.psl_lexer.proofs.values.value_of.Given as goal

abbrev pub invariant-loop-byte : goal.invariant-loop-byte
invariant-loop-byte l = record {
  same : value_after l.base l.value (drop l.byte-index l.bytes) ≡ value_after l.base 0 l.bytes;
  fits : l.value < 2 ^ 64;
}
