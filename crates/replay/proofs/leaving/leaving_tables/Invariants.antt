use Rattle.std.proofs.Common.{◌≡◌, take}
use Rattle.replay.proofs.leaving.leaving_tables.Given as goal
use Rattle.replay.specs.ByBits.{lowest_table}

abbrev pub invariant-loop-table : goal.invariant-loop-table
invariant-loop-table l = l.lowest ≡ lowest_table (take l.table-index l.tables) l.fn.before l.bits l.valuation l.values
