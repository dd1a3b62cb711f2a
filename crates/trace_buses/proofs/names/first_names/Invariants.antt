use Rattle.std.proofs.Common.{◌≡◌, map}
use Rattle.std.specs.List.{range_with_len}
use Rattle.trace.specs.Trace.{first_text}
use Rattle.trace_buses.proofs.names.first_names.Given as goal
use Rattle.trace_buses.specs.Buses.{bit_name}

abbrev pub invariant-loop-signal : goal.invariant-loop-signal
invariant-loop-signal l = l.names ≡ map (λ signal. bit_name (first_text l.netlist.names signal) signal) (range_with_len 0 l.signal)
