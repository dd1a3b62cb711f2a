use Rattle.std.proofs.Common.{rules, ◌≡◌, ◌∙◌, Some, None}
use Rattle.blif_hierarchy.proofs.Depths.{none-deep, some-deep, scan-is, deep-next, deep-all}
use Rattle.blif_hierarchy.proofs.Shallow.{shallow-all}
use Rattle.blif_hierarchy.proofs.depth.first_too_deep.Goals as goal

pub returns-in-Some-clause-found : goal.returns-in-Some-clause-found
returns-in-Some-clause-found g c =
    let scanned = scan-is c.args.models.now c.loop-model.model c.at.result.now c.as_slice.result.now c.in_ok-depths.depths.items c.deref.result.now c.first_deep.result
    (search rules) (search rules) (search rules) (search rules) in
    let is : c.first_deep.result ≡ Some c.in-Some.placement = search rules in
    some-deep g.row.L.Denot c.args.models.now c.requires.closed c.in_ok-depths.depths.items c.in_ok-depths.ensures c.loop-model.model c.in-Some.placement
    (scanned ∙ is) c.loop-model.invariant

pub loop-model-preserved : goal.loop-model-preserved
loop-model-preserved g c =
    let scanned = scan-is c.args.models.now c.loop-model.model c.at.result.now c.as_slice.result.now c.in_ok-depths.depths.items c.deref.result.now c.first_deep.result
    (search rules) (search rules) (search rules) (search rules) in
    let is : c.first_deep.result ≡ None = search rules in
    deep-next c.args.models.now c.loop-model.model c.loop-model.invariant
    (none-deep g.row.L.Denot c.args.models.now c.requires.closed c.in_ok-depths.depths.items c.in_ok-depths.ensures c.loop-model.model (scanned ∙ is))

pub returns-clause-found : goal.returns-clause-found
returns-clause-found g c = deep-all c.args.models.now c.loop-model.model (search rules) c.loop-model.invariant

pub returns-clause-shallow : goal.returns-clause-shallow
returns-clause-shallow g c = shallow-all c.args.models.now (returns-clause-found g c)
