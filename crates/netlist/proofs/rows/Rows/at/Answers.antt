use Rattle.std.proofs.Common.{◌<◌, length, get_or, sym, ap, ◌∙◌, arith, []}
use Rattle.netlist.proofs.RowLists.{length-rows_in, row_at, row_within}
use Rattle.netlist.proofs.rows.Rows.at.Goals as goal

pub overflow_mul-place : goal.overflow_mul-place
overflow_mul-place c =
    let rows = c.self.inside in
    let within : c.args.place < rows.count = omega (arith, length-rows_in rows.count rows.width rows.marks.items, ap length c.self.view_is, c.requires) in
    let fits = row_within rows.count rows.width c.args.place within in
    omega (arith, c.self.invariant, rows.marks.ok.0)

pub part-requires : goal.part-requires
part-requires c =
    let rows = c.self.inside in
    let within : c.args.place < rows.count = omega (arith, length-rows_in rows.count rows.width rows.marks.items, ap length c.self.view_is, c.requires) in
    rw c.deref.ensures.value (omega (arith, c.self.invariant, row_within rows.count rows.width c.args.place within))

pub returns : goal.returns
returns c =
    let rows = c.self.inside in
    let within : c.args.place < rows.count = omega (arith, length-rows_in rows.count rows.width rows.marks.items, ap length c.self.view_is, c.requires) in
    c.part.ensures ∙ rw c.deref.ensures.value (sym (row_at rows.count rows.width rows.marks.items c.args.place within)) ∙ ap (λ list. get_or list c.args.place []) c.self.view_is
