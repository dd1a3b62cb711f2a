use Rattle.commands.proofs.Replaying.{missing-fails}
use Rattle.commands.proofs.replayed.replay_in.Goals as goal

pub returns-in-Err : goal.returns-in-Err
returns-in-Err c =
    missing-fails c.args.name.now c.args.netlist.now c.args.sampled.now c.in-Err.fault c.replay_fault.result c.in-Err.ensures.missing c.replay_fault.ensures
