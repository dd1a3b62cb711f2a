use Rattle.std.proofs.Common.{◌<◌, ◌∙◌, ap, arith, length}
use Rattle.std.proofs.lemmas.List.{length-map}
use Rattle.blif_flattening.specs.declared.cells.Cell.{Cell}
use Rattle.blif_flattening.specs.Cells.{SignalTable, signal_in}
use Rattle.blif_flattening.specs.Listing.{number_in_list}
use Rattle.blif_flattening.proofs.Tables.{number_read, number-asked}
use Rattle.blif_flattening.proofs.cells.Cells.number.Goals as goal

pub returns : goal.returns
returns c =
    let lt : c.args.cell < length c.self.inside.cells.items = omega (arith, length-map c.self.inside.cells.items (λ (cell : Cell). cell.signal), ap (λ (t : SignalTable). length t.owners) c.self.view_is, c.requires) in
    number-asked c.self.inside.cells.items c.self.inside.order.items c.args.cell c.index.result.now.number c.self.invariant lt
    (number_read c.self.inside.cells.items c.args.cell c.index.result.now lt c.index.ensures)
    ∙ ap (λ (t : SignalTable). number_in_list t.seen (signal_in t.owners c.args.cell)) c.self.view_is
