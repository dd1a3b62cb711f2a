use Rattle.std.proofs.Common.{◌≡◌, ℕ, map, take}
use Rattle.gates_builder.specs.Adding.{AreOf, Making}
use Rattle.gates_frames.specs.Frames.{literal_at}
use Rattle.gates_unroll.proofs.tables.literals_of.Given as goal

abbrev pub invariant-loop-signal : goal.invariant-loop-signal
invariant-loop-signal l = record {
  are : (making : Making) → AreOf making l.literals → AreOf making l.read;
  is : (given : ℕ) → l.read ≡ map (literal_at given l.literals) (take l.signal-index l.signals);
}
