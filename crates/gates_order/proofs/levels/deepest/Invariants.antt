use Rattle.std.proofs.Common.{◌≡◌, map, take, slice_index}
use Rattle.gates_order.specs.Depths.{most}
use Rattle.gates_order.proofs.levels.deepest.Given as goal

abbrev pub invariant-loop-signal : goal.invariant-loop-signal
invariant-loop-signal l = l.most ≡ most (map (slice_index l.levels) (take l.signal-index l.signals))
