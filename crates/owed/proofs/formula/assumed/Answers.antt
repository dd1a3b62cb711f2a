use Rattle.std.proofs.Common.{◌<◌, length, arith, sym, ◌∙◌, ap}
use Rattle.owed.proofs.Answering.{assumed-next}
use Rattle.owed.proofs.formula.assumed.Goals as goal
use Rattle.owed.specs.Owed.{with_directive}

pub loop-directive-preserved : goal.loop-directive-preserved
loop-directive-preserved c =
    let items = c.as_slice-directive-items.result.now in
    let within : c.loop-directive.directive-index < length items = omega arith in
    record {
      formula = c.in_ok-assumed.ensures
          ∙ ap (λ others. with_directive others c.directive-item.result) c.loop-directive.invariant.formula
          ∙ sym (assumed-next items c.loop-directive.directive-index c.directive-item.result within c.directive-item.is);
    }
