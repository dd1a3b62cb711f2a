use Rattle.blif_linking.specs.Undriven.{is_free}
use Rattle.blif_linking.proofs.Indexes.{pushed}
use Rattle.blif_linking.proofs.undriven.free_names.Goals as goal

pub loop-number-preserved : goal.loop-number-preserved
loop-number-preserved c =
    pushed (is_free c.args.own.now.text.names c.args.own.now.driven c.args.found.now) c.args.own.now.text.names c.loop-number.number c.at.result.now
    c.is_free.result c.loop-number.free.items _ c.at.ensures c.is_free.ensures c.loop-number.invariant c.in_ok-push.ensures.items
