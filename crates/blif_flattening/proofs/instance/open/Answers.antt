use Rattle.std.proofs.Common.{◌∙◌, arith}
use Rattle.blif_flattening.proofs.Opening.{fresh-next, AreCells-next, Opens-next}
use Rattle.blif_flattening.proofs.instance.open.Goals as goal

pub open_name-requires-clause-fresh : goal.open_name-requires-clause-fresh
open_name-requires-clause-fresh c =
    fresh-next c.args.above.now c.args.path.now c.args.actuals.now c.args.table.now.owners c.requires.above c.requires.actuals
    c.loop-name.table.owners c.loop-name.cells.items c.loop-name.name (omega arith) c.loop-name.invariant.cells c.loop-name.invariant.opens c.requires.fresh

pub loop-name-preserved : goal.loop-name-preserved
loop-name-preserved c = record {
  cells = rw c.in_ok-push.ensures.items
      (AreCells-next c.args.above.now c.args.path.now c.args.actuals.now c.args.table.now.owners c.requires.above c.requires.actuals
      c.loop-name.table.owners c.loop-name.cells.items c.loop-name.name (omega arith) c.loop-name.invariant.cells c.loop-name.invariant.opens
      c.open_name.new.table.owners c.in_ok-cell.cell c.in_ok-cell.ensures.opens);
  opens = Opens-next c.args.above.now c.args.path.now c.args.actuals.now c.args.table.now.owners c.requires.above c.requires.actuals
      c.loop-name.table.owners c.loop-name.cells.items c.loop-name.name (omega arith) c.loop-name.invariant.cells c.loop-name.invariant.opens
      c.open_name.new.table.owners c.in_ok-cell.cell c.in_ok-cell.ensures.opens;
  seen = c.in_ok-cell.ensures.seen ∙ c.loop-name.invariant.seen;
}
