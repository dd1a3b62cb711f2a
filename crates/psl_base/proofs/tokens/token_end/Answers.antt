use Rattle.std.proofs.Common.{◌∙◌, sym, arith}
use Rattle.psl_base.proofs.Scanning.{starts_token, grows_token}
use Rattle.psl_base.proofs.tokens.token_end.Goals as goal

pub loop-at-init : goal.loop-at-init
loop-at-init c = record {
  within = omega arith;
  after = omega arith;
  first = starts_token c.args.text.now c.args.start c.requires.within c.requires.begins;
}

pub loop-at-preserved : goal.loop-at-preserved
loop-at-preserved c = record {
  within = omega arith;
  after = omega arith;
  first = c.loop-at.invariant.first ∙ grows_token c.args.text.now c.args.start c.loop-at.at (omega arith) c.loop-at-test.true (sym c.if-not-is_white.ensures);
}
