use Rattle.std.proofs.Common.{take}
use Rattle.vcd_reader.specs.Sampled.{letters_of}
use Rattle.wave_judge.proofs.settling.points.Given as goal
use Rattle.wave_judge.specs.Settled.{ArePoints}

abbrev pub invariant-loop-place : goal.invariant-loop-place
invariant-loop-place l = ArePoints (letters_of l.recording) (take l.place l.unit) (take l.place l.verdicts) l.points
