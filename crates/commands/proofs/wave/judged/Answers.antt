use Rattle.commands.proofs.Reasons.{judge-text}
use Rattle.commands.proofs.Staging.{told-fails}
use Rattle.commands.proofs.wave.judged.Goals as goal
use Rattle.commands.specs.Diagnostics.{judge_diagnostic}
use Rattle.commands.specs.Waves.{AreJudged}
use Rattle.wave_judge.specs.Faults.{IsJudgeFault}

pub returns-in-Err : goal.returns-in-Err
returns-in-Err c =
    told-fails c.args.unit.now (judge_diagnostic c.args.directives.now) (AreJudged c.args.recording.now c.args.directives.now) (IsJudgeFault c.args.directives.now) c.in-Err.fault
    c.fault_in.result c.judge_diagnostic.result c.in-Err.ensures.fault (judge-text c.args.directives.now c.in-Err.fault) c.judge_diagnostic.ensures c.fault_in.ensures
