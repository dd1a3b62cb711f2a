use Rattle.commands.proofs.Valuations.{line-more}
use Rattle.commands.proofs.shown.Shown.add_valuations.Goals as goal

pub loop-place-preserved : goal.loop-place-preserved
loop-place-preserved c =
    line-more c.args.part.now c.args.self.columns.now c.args.text.now.items c.loop-place.text.items c.add_valuation.new.text.items c.args.valuations.now c.loop-place.place
    c.index-valuations-place.result c.loop-place-test.true c.index-valuations-place.is c.loop-place.invariant c.in_ok-add_valuation.ensures
