use Rattle.std.proofs.Common.{take}
use Rattle.std.specs.Prelude.{All}
use Rattle.vcd_reader.specs.Sampled.{letters_of}
use Rattle.wave_judge.proofs.judging.judge.Given as goal
use Rattle.wave_judge.specs.Faults.{IsJudgeable}
use Rattle.wave_judge.specs.Judged.{AreVerdicts}

abbrev pub invariant-loop-directive : goal.invariant-loop-directive
invariant-loop-directive l = record {
  verdicts : AreVerdicts (letters_of l.fn.recording) (take l.directive-index l.directive-items) l.verdicts;
  judgeable : All IsJudgeable (take l.directive-index l.directive-items);
}
