use Rattle.std.proofs.Common.{◌-◌, subst, sym}
use Rattle.blif_flattening.proofs.Visiting.{model-read, model-none}
use Rattle.blif_flattening.specs.declared.model.TheConstants.{DEEPEST}
use Rattle.blif_hierarchy.specs.Sums.{FindsPast, HasCosts}
use Rattle.blif_hierarchy.proofs.Costs.{finds-past, within-limit, no-models, top-placements}
use Rattle.blif_hierarchy.proofs.cost.first_too_large.Goals as goal

pub returns-in-Some-clause-found : goal.returns-in-Some-clause-found
returns-in-Some-clause-found g c =
    let at = model-read c.args.models.now c.as_slice.result.now 0 c.in-Some.top.now c.as_slice.ensures c.in-Some.ensures.lookup.3.0 c.in-Some.ensures.lookup.1 in
    let has = subst (λ costs. HasCosts c.args.models.now c.args.scale.now (DEEPEST - 1) costs) (sym c.deref.ensures.value) c.in_ok-costs.ensures in
    subst (λ found. FindsPast c.args.models.now c.args.scale.now found) (sym c.first_past.ensures)
    (finds-past g.row.L.Denot c.args.models.now c.args.scale.now c.deref.result.now has c.requires.closed c.requires.form _ _
    (top-placements c.args.models.now c.in-Some.top.now c.as_slice-in-Some.result.now at c.as_slice-in-Some.ensures) c.cost_alone-start.ensures)

pub returns-in-Some-clause-few : goal.returns-in-Some-clause-few
returns-in-Some-clause-few g c few =
    within-limit g.row.L.Denot c.args.models.now c.args.scale.now c.first_past.result (returns-in-Some-clause-found g c) few

pub returns-clause-few : goal.returns-clause-few
returns-clause-few g c =
    no-models c.args.models.now c.args.scale.now.count (model-none c.args.models.now c.as_slice.result.now 0 c.as_slice.ensures c.in-None.ensures.lookup.3)
