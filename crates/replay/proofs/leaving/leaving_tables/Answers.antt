use Rattle.netlist.specs.declared.table.Table.{Table}
use Rattle.replay.proofs.Lowest.{kept-lowest}
use Rattle.replay.proofs.leaving.leaving_tables.Goals as goal
use Rattle.replay.specs.ByBits.{differs_by}

pub loop-table-preserved : goal.loop-table-preserved
loop-table-preserved c =
    kept-lowest (differs_by c.args.bits.now c.args.valuation.now c.args.values.now) (λ (table : Table). table.output) c.args.before c.args.tables.now c.loop-table.table-index c.table-item.result
    c.loop-table.lowest c.lower_if-lowest.result c.differs_by.result c.loop-table-test.true c.table-item.is c.loop-table.invariant c.differs_by.ensures c.lower_if-lowest.ensures
