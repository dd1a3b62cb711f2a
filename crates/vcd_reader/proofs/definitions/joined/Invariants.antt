use Rattle.std.proofs.Common.{◌≡◌, ◌<◌, length}
use Rattle.vcd_reader.specs.Declarations.{Declared, Variable}
use Rattle.vcd_reader.specs.Running.{defining}
use Rattle.vcd_reader.specs.Standing.{WantsReference, InReference}
use Rattle.vcd_reader.proofs.definitions.joined.Given as goal

abbrev pub invariant-loop-text : goal.invariant-loop-text
invariant-loop-text l = record {
  same : (d : Declared) (v : Variable) → defining d (WantsReference v) l.fn.cursor ≡ defining d (InReference v l.text.items) l.cursor;
  fewer : length l.cursor.tokens < length l.fn.cursor.tokens;
}

abbrev pub decreases-loop-text : goal.decreases-loop-text
decreases-loop-text l = length l.cursor.tokens
