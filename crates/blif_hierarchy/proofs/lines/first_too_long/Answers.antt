use Rattle.std.proofs.Common.{◌-◌, rules, subst, sym}
use Rattle.blif_flattening.proofs.Visiting.{model-read, model-none}
use Rattle.blif_flattening.specs.declared.model.TheConstants.{DEEPEST}
use Rattle.blif_hierarchy.specs.Sums.{FindsLong, HasBytes}
use Rattle.blif_hierarchy.proofs.Costs.{top-placements}
use Rattle.blif_hierarchy.proofs.Lengths.{finds-long, no-top}
use Rattle.blif_hierarchy.proofs.lines.first_too_long.Goals as goal

pub returns-in-Some : goal.returns-in-Some
returns-in-Some g c =
    let at = model-read c.args.models.now c.as_slice.result.now 0 c.in-Some.top.now c.as_slice.ensures c.in-Some.ensures.lookup.3.0 c.in-Some.ensures.lookup.1 in
    let has = subst (λ below. HasBytes c.args.models.now c.args.scale.now (DEEPEST - 1) below) (sym c.deref.ensures.value) c.in_ok-below.ensures in
    subst (λ found. FindsLong c.args.models.now c.args.scale.now found) (sym c.first_long.ensures)
    (finds-long g.row.L.Denot c.args.models.now c.args.scale.now c.deref.result.now has _ _
    (top-placements c.args.models.now c.in-Some.top.now c.as_slice-in-Some.result.now at c.as_slice-in-Some.ensures) (search rules))

pub returns : goal.returns
returns g c = no-top c.args.models.now c.args.scale.now (model-none c.args.models.now c.as_slice.result.now 0 c.as_slice.ensures c.in-None.ensures.lookup.3)
