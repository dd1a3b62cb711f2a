use Rattle.std.proofs.Common.{rules, subst, All, ◌<◌}
use Rattle.blif_flattening.specs.declared.model.TheConstants.{DEEPEST}
use Rattle.blif_hierarchy.specs.Depth.{HasDepths}
use Rattle.blif_hierarchy.proofs.Depths.{few-depths, HasDepths-next}
use Rattle.blif_hierarchy.proofs.depth.depths_of.Goals as goal

pub deeper-requires : goal.deeper-requires
deeper-requires g c = record {
  few = subst (λ xs. All (λ depth. depth < DEEPEST) xs) (search rules)
      (few-depths c.args.models.now c.loop-round.round c.loop-round.depths.items c.loop-round.invariant (search rules));
}

pub loop-round-preserved : goal.loop-round-preserved
loop-round-preserved g c =
    subst (λ n. HasDepths c.args.models.now n c.in_ok-depths-2.depths.items) (search rules)
    (HasDepths-next c.args.models.now c.loop-round.round c.loop-round.depths.items c.in_ok-depths-2.depths.items c.requires.closed c.loop-round.invariant (search rules))
