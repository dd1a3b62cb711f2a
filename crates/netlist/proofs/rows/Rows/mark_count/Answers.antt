use Rattle.std.proofs.Common.{length, sum_by, sym, ap, ◌∙◌}
use Rattle.netlist.specs.declared.rows.Mark.{Mark}
use Rattle.netlist.proofs.RowLists.{sum_by-rows_in}
use Rattle.netlist.proofs.rows.Rows.mark_count.Goals as goal

pub returns : goal.returns
returns c =
    let rows = c.self.inside in
    c.len.ensures ∙ rows.marks.ok.0 ∙ sym (sum_by-rows_in rows.count rows.width rows.marks.items c.self.invariant) ∙ ap (sum_by (length {A = Mark})) c.self.view_is
