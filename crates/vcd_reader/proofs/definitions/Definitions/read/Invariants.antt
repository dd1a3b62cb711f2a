use Rattle.std.proofs.Common.{◌≡◌, ◌+◌, ◌≤◌, length}
use Rattle.psl_base.specs.Places.{file_limit}
use Rattle.vcd_reader.specs.Declarations.{nothing_declared}
use Rattle.vcd_reader.specs.Running.{defining}
use Rattle.vcd_reader.specs.Standing.{Ready}
use Rattle.vcd_reader.proofs.definitions.Definitions.read.Given as goal

abbrev pub invariant-loop-found : goal.invariant-loop-found
invariant-loop-found l = record {
  same : defining nothing_declared Ready l.initial.cursor ≡ defining l.found Ready l.cursor;
  room : length l.found.codes + length l.cursor.tokens ≤ file_limit;
}

abbrev pub decreases-loop-found : goal.decreases-loop-found
decreases-loop-found l = length l.cursor.tokens
