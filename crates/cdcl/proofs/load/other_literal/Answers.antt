use Rattle.std.proofs.Common.{◌≡◌, ℕ, take, sym}
use Rattle.std.proofs.lemmas.List.{take_all}
use Rattle.std.proofs.lemmas.List.Elements.{All-more, All-same}
use Rattle.cdcl.proofs.load.other_literal.Goals as goal

pub loop-other-preserved : goal.loop-other-preserved
loop-other-preserved c =
    let P : ℕ → Type 0 = λ other. other ≡ c.args.literal in
    All-more P c.args.clause.now c.loop-other.other-index 0 c.loop-other-test.true c.loop-other.invariant c.if-other-literal.false

pub returns-clause-none : goal.returns-clause-none
returns-clause-none c =
    let P : ℕ → Type 0 = λ other. other ≡ c.args.literal in
    All-same P c.args.clause.now (take c.loop-other.other-index c.args.clause.now) (sym (take_all c.loop-other.other-index c.args.clause.now c.loop-other-test.false)) c.loop-other.invariant
