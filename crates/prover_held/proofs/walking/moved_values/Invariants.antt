use Rattle.std.proofs.Common.{◌≡◌, map, take}
use Rattle.netlist.specs.Valuations.{bit}
use Rattle.prover_held.proofs.walking.moved_values.Given as goal

abbrev pub invariant-loop-latch : goal.invariant-loop-latch
invariant-loop-latch l = l.values ≡ map (λ latch. bit l.earlier latch.input) (take l.latch-index l.latches)
