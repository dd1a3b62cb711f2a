use Rattle.std.proofs.Common.{◌≡◌, ◌+◌, ◌++◌, map, take, length}
use Rattle.netlist.specs.Design.{free_of}
use Rattle.netlist.specs.Valuations.{values}
use Rattle.replay.proofs.values.free_values.Given as goal

abbrev pub invariant-loop-place : goal.invariant-loop-place
invariant-loop-place l = record {
  room : length l.into ≡ length (free_of l.netlist);
  values : take l.place l.into ≡ values l.of_signals (take l.place l.inputs);
}

abbrev pub invariant-loop-place-2 : goal.invariant-loop-place-2
invariant-loop-place-2 l = record {
  room : length l.into ≡ length (free_of l.netlist);
  values : take (length l.inputs + l.place) l.into ≡ values l.of_signals (l.inputs ++ map (λ latch. latch.output) (take l.place l.latches));
}
