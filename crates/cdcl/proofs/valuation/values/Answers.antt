use Rattle.std.proofs.Common.{◌*◌, arith}
use Rattle.std.specs.List.{Contains}
use Rattle.std.proofs.lemmas.List.{length_push}
use Rattle.cdcl.proofs.Modelling.{values_push}
use Rattle.cdcl.proofs.valuation.values.Goals as goal

pub loop-variable-preserved : goal.loop-variable-preserved
loop-variable-preserved c =
    let at = c.loop-variable in
    let trail = c.args.trail.now.literals in
    rw c.in_ok-push.ensures.items record {
      size = omega (arith, length_push at.values.items c.is_true.result, at.invariant.size);
      is = values_push (λ variable. Contains trail (2 * variable)) at.values.items c.is_true.result at.variable at.invariant.size at.invariant.is c.is_true.ensures;
    }
