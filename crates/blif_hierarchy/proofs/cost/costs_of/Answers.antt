use Rattle.std.proofs.Common.{rules, subst}
use Rattle.blif_hierarchy.specs.Sums.{HasCosts}
use Rattle.blif_hierarchy.proofs.Costs.{HasCosts-next}
use Rattle.blif_hierarchy.proofs.cost.costs_of.Goals as goal

pub loop-round-preserved : goal.loop-round-preserved
loop-round-preserved g c =
    subst (λ n. HasCosts c.args.models.now c.args.scale.now n c.in_ok-costs-2.costs.items) (search rules)
    (HasCosts-next g.row.L.Denot c.args.models.now c.args.scale.now c.loop-round.round c.loop-round.costs.items c.loop-round.invariant c.requires.closed c.requires.form
    c.in_ok-costs-2.costs.items (search rules))
