use Rattle.std.proofs.Common.{length, sym, ap, ◌∙◌}
use Rattle.netlist.proofs.RowLists.{length-rows_in}
use Rattle.netlist.proofs.rows.Rows.len.Goals as goal

pub returns : goal.returns
returns c = sym (length-rows_in c.self.inside.count c.self.inside.width c.self.inside.marks.items) ∙ ap length c.self.view_is
