use Rattle.std.proofs.Common.{take, sym}
use Rattle.std.proofs.lemmas.List.{take_all}
use Rattle.std.proofs.lemmas.List.Elements.{All-more, All-same}
use Rattle.cdcl.specs.Reducing.{IsNoReason}
use Rattle.cdcl.proofs.drop.is_reason.Goals as goal

pub loop-literal-preserved : goal.loop-literal-preserved
loop-literal-preserved c =
    All-more (IsNoReason c.args.trail.now c.args.number) c.args.clause.now c.loop-literal.literal-index 0 c.loop-literal-test.true c.loop-literal.invariant
    (rw c.if-is_reason_of.false at c.is_reason_of.ensures)

pub returns : goal.returns
returns c =
    All-same (IsNoReason c.args.trail.now c.args.number) c.args.clause.now (take c.loop-literal.literal-index c.args.clause.now)
    (sym (take_all c.loop-literal.literal-index c.args.clause.now c.loop-literal-test.false)) c.loop-literal.invariant
