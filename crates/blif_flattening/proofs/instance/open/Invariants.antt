use Rattle.std.proofs.Common.{◌≡◌}
use Rattle.blif_flattening.specs.Instances.{AreCells, Opens, opened_by}
use Rattle.blif_flattening.proofs.instance.open.Given as goal

abbrev pub invariant-loop-name : goal.invariant-loop-name
invariant-loop-name l = record {
  cells : AreCells l.table.owners l.cells.items l.name (opened_by l.fn.table.owners l.above l.path l.actuals);
  opens : Opens l.path l.name l.fn.table.owners l.table.owners;
  seen : l.table.seen ≡ l.fn.table.seen;
}
