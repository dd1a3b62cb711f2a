use Rattle.std.proofs.Common.{◌∙◌, add-one, sym}
use Rattle.blif_linking.proofs.Connecting.{lacks-here, lacks-later}
use Rattle.blif_linking.proofs.connections.lacks_one.Goals as goal

pub returns-then-lacks : goal.returns-then-lacks
returns-then-lacks c =
    sym (c.loop-number.invariant
    ∙ lacks-here c.args.given.now c.args.inputs.now c.loop-number.number c.at.result.now c.at.ensures (sym c.lacks.ensures ∙ c.if-lacks.true))

pub loop-number-preserved : goal.loop-number-preserved
loop-number-preserved c =
    c.loop-number.invariant
    ∙ rw add-one (lacks-later c.args.given.now c.args.inputs.now c.loop-number.number c.at.result.now c.at.ensures (sym c.lacks.ensures ∙ c.if-lacks.false))
