use Rattle.std.proofs.Common.{◌≡◌, map}
use Rattle.std.specs.List.{range_with_len}
use Rattle.trace.specs.Vectors.{single}
use Rattle.trace_buses.proofs.joining.alone.Given as goal
use Rattle.trace_buses.specs.Buses.{name_text}

abbrev pub invariant-loop-signal : goal.invariant-loop-signal
invariant-loop-signal l = l.vectors ≡ map (λ signal. single (name_text l.names signal) signal) (range_with_len 0 l.signal)
