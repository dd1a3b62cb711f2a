use Rattle.std.proofs.Common.{◌++◌, ap, ◌∙◌, add-one, ◌∷◌, []}
use Rattle.netlist.proofs.RowLists.{rows_in-more, whole-more}
use Rattle.netlist.proofs.rows.Rows.push.Goals as goal

pub invariant_of-self-2 : goal.invariant_of-self-2
invariant_of-self-2 c =
    let rows = c.self.inside in
    rw (c.in_ok-extend_from_slice.ensures.items, add-one) (whole-more rows.count rows.width rows.marks.items c.args.row.now c.self.invariant (rw c.self.view_is c.requires))

pub returns-clause-ok : goal.returns-clause-ok
returns-clause-ok c =
    let rows = c.self.inside in
    rw (c.in_ok-extend_from_slice.ensures.items, add-one) (rows_in-more rows.count rows.width rows.marks.items c.args.row.now c.self.invariant (rw c.self.view_is c.requires) ∙ ap (λ list. list ++ c.args.row.now ∷ []) c.self.view_is)
