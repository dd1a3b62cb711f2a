use Rattle.std.proofs.Common.{◌∙◌, sym, arith}
use Rattle.psl_base.proofs.Scanning.{past_white}
use Rattle.psl_base.proofs.tokens.token_start.Goals as goal

pub loop-at-preserved : goal.loop-at-preserved
loop-at-preserved c = record {
  within = omega arith;
  same = c.loop-at.invariant.same ∙ past_white c.args.text.now c.loop-at.at c.loop-at-test.true (sym c.if-is_white.ensures);
}
