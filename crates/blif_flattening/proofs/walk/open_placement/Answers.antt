use Rattle.std.proofs.Common.{◌≡◌, ◌∷◌, List, ℕ, ap, ◌∙◌}
use Rattle.blif_flattening.proofs.Placing.{actuals-known, IsOpened-placed}
use Rattle.blif_flattening.proofs.walk.open_placement.Goals as goal

pub open-requires-clause-actuals : goal.open-requires-clause-actuals
open-requires-clause-actuals g c =
    let has = rw (c.as_slice-2.ensures, c.name_count-count.ensures) at c.in_ok-actuals.ensures in
    rw (c.as_slice-4.ensures.value, c.as_slice-3.ensures)
    (actuals-known g.row.L.Denot g.L.Line.mentions c.args.inside.models.now c.requires.named c.args.inside.instance.now c.args.out.now.table.owners c.requires.opened c.args.k
    c.args.placement.now c.requires.placed c.requires.fresh c.in_ok-actuals.actuals.items has)

pub returns-clause-opened : goal.returns-clause-opened
returns-clause-opened g c =
    let path : c.in_ok-path.path ≡ c.args.k ∷ c.args.inside.instance.now.path = c.in_ok-path.ensures ∙ ap (λ (p : List ℕ). c.args.k ∷ p) c.as_slice.ensures in
    let has = rw (c.as_slice-2.ensures, c.name_count-count.ensures) at c.in_ok-actuals.ensures in
    let cells = rw (c.as_slice-4.ensures.value, c.as_slice-3.ensures, path) at c.in_ok-cells.ensures.cells in
    rw path
    (IsOpened-placed g.row.L.Denot g.L.Line.mentions c.args.inside.models.now c.requires.named c.args.inside.instance.now c.args.out.now.table.owners c.requires.opened c.args.k
    c.args.placement.now c.requires.placed c.requires.fresh c.in_ok-actuals.actuals.items has c.open.new.table.owners c.in_ok-cells.cells cells)
