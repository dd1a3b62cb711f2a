use Rattle.std.proofs.Common.{◌≡◌, length}
use Rattle.vcd_reader.specs.Running.{telling, nothing_held}
use Rattle.vcd_reader.specs.Standing.{Ready}
use Rattle.vcd_reader.proofs.body.Body.read.Given as goal

abbrev pub invariant-loop-token : goal.invariant-loop-token
invariant-loop-token l = record {
  same : telling l.found (nothing_held (length l.found.codes)) Ready l.initial.cursor ≡ telling l.found l.body Ready l.cursor;
  signals : length l.body.changes ≡ length l.found.codes;
}

abbrev pub decreases-loop-token : goal.decreases-loop-token
decreases-loop-token l = length l.cursor.tokens
