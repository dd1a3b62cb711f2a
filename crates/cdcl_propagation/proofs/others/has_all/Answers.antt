use Rattle.std.proofs.Common.{take, sym}
use Rattle.std.proofs.lemmas.List.{take_all}
use Rattle.std.proofs.lemmas.List.Elements.{All-more, All-same}
use Rattle.cdcl_propagation.specs.Watching.{IsAmong}
use Rattle.cdcl_propagation.proofs.others.has_all.Goals as goal

pub loop-literal-preserved : goal.loop-literal-preserved
loop-literal-preserved c =
    All-more (IsAmong c.args.pair) c.args.clause.now c.loop-literal.literal-index 0 c.loop-literal-test.true c.loop-literal.invariant
    (rw c.if-not-has.false at c.has.ensures)

pub returns : goal.returns
returns c =
    All-same (IsAmong c.args.pair) c.args.clause.now (take c.loop-literal.literal-index c.args.clause.now)
    (sym (take_all c.loop-literal.literal-index c.args.clause.now c.loop-literal-test.false)) c.loop-literal.invariant
