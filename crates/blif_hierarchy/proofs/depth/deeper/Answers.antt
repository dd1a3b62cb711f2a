use Rattle.std.proofs.Common.{rules, ◌+◌, [], ◌∷◌, ◌++◌, ap, ◌∙◌}
use Rattle.blif_hierarchy.proofs.Depths.{deeper-next}
use Rattle.blif_hierarchy.proofs.depth.deeper.Goals as goal

pub loop-model-preserved : goal.loop-model-preserved
loop-model-preserved g c =
    c.in_ok-push.ensures.items
    ∙ ap (λ xs. xs ++ (c.deepest.result + 1) ∷ []) c.loop-model.invariant
    ∙ deeper-next c.args.models.now c.args.depths.now c.loop-model.model-index c.deepest.result c.model-item.result (search rules) (search rules) (search rules)
