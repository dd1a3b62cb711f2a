use Rattle.std.proofs.Common.{◌≢◌, ℕ, ◌<◌, slice_index, slice_index_or, Some, None}
use Rattle.netlist_order.proofs.wiring.reads.Given as goal

abbrev pub invariant-loop-signal : goal.invariant-loop-signal
invariant-loop-signal l = (k : ℕ) → k < l.signal-index → slice_index_or l.drivers (slice_index l.signals k) None ≢ Some l.table
