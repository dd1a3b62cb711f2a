use Rattle.blif_linking.specs.Numbering.{number_in}
use Rattle.blif_linking.proofs.Indexes.{pushed}
use Rattle.blif_linking.proofs.numbering.numbers_in.Goals as goal

pub loop-number-preserved : goal.loop-number-preserved
loop-number-preserved c =
    pushed (number_in c.args.names.now) c.args.own.now c.loop-number.number c.at.result.now c.number_in.result c.loop-number.numbers.items _
    c.at.ensures c.number_in.ensures c.loop-number.invariant c.in_ok-push.ensures.items
