use Rattle.std.proofs.Common.{◌≡◌, ◌++◌}
use Rattle.trace.proofs.writing.add_declarations.Given as goal
use Rattle.trace.specs.Trace.{declarations}

abbrev pub invariant-loop-signal : goal.invariant-loop-signal
invariant-loop-signal l = l.text.items ≡ l.fn.text.items ++ declarations l.names l.signal
