use Rattle.sat_command.proofs.Ending.{tells-some}
use Rattle.sat_command.proofs.finish.unwritten.Goals as goal

pub returns-clause-told : goal.returns-clause-told
returns-clause-told g c = λ asked.
    tells-some asked c.args.fault c.requires c.put_all-told.result (g.E.Sink.state c.args.err.now) (g.E.Sink.state c.put_all-told.new.sink)
    c.put_all-told.ensures.all c.put_all-told.ensures.part
