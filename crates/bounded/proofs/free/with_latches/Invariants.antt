use Rattle.std.proofs.Common.{◌≡◌, ◌++◌, map, take}
use Rattle.netlist.specs.declared.latch.Latch.{Latch}
use Rattle.bounded.proofs.free.with_latches.Given as goal

abbrev pub invariant-loop-latch : goal.invariant-loop-latch
invariant-loop-latch l = l.all ≡ l.signals ++ map (λ (latch : Latch). latch.output) (take l.latch-index l.latches)
