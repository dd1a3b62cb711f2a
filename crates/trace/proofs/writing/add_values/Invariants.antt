use Rattle.std.proofs.Common.{◌≡◌, ◌++◌, take}
use Rattle.trace.proofs.writing.add_values.Given as goal
use Rattle.trace.specs.Codes.{codes_of}
use Rattle.vcd_writer.specs.Lines.{value_lines}

abbrev pub invariant-loop-signal : goal.invariant-loop-signal
invariant-loop-signal l = l.text.items ≡ l.fn.text.items ++ value_lines (codes_of l.signal) (take l.signal l.values)
