use Rattle.std.proofs.Common.{◌<◌, length, arith, subst, sym, take, Option}
use Rattle.psl_tree.specs.Trees.{Formula}
use Rattle.owed.proofs.Answering.{assumed-next}
use Rattle.owed.proofs.size.assumed_size.Goals as goal
use Rattle.owed.specs.Owed.{plain_assumed}
use Rattle.owed.specs.Sizes.{AreSizesOf}

pub loop-directive-preserved : goal.loop-directive-preserved
loop-directive-preserved c =
    let items = c.as_slice-directive-items.result.now in
    let within : c.loop-directive.directive-index < length items = omega arith in
    record {
      size = subst (λ (f : Option Formula). AreSizesOf c.in_ok-size.size f)
          (sym (assumed-next items c.loop-directive.directive-index c.directive-item.result within c.directive-item.is))
          (c.in_ok-size.ensures (plain_assumed (take c.loop-directive.directive-index items)) c.loop-directive.invariant.size);
    }
