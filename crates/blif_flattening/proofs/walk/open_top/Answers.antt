use Rattle.std.proofs.Common.{[]}
use Rattle.blif_flattening.proofs.Beginning.{IsOpened-top, IsFresh-top}
use Rattle.blif_flattening.proofs.walk.open_top.Goals as goal

pub returns-clause-opened : goal.returns-clause-opened
returns-clause-opened g c =
    let has = rw c.name_count.ensures at c.in_ok-actuals.ensures in
    let cells = rw c.as_slice.ensures.value at c.in_ok-cells.ensures.cells in
    IsOpened-top c.args.models.now c.args.out.now.table.owners c.open.new.table.owners [] c.in_ok-cells.cells c.new-path.result c.in_ok-actuals.actuals.items
    c.new-path.ensures has cells

pub returns-clause-fresh : goal.returns-clause-fresh
returns-clause-fresh g c =
    IsFresh-top c.args.out.now.table.owners c.open.new.table.owners _ c.new-path.result c.requires.first c.new-path.ensures c.in_ok-cells.ensures.opens
