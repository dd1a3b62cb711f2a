use Rattle.std.proofs.Common.{subst}
use Rattle.std.specs.Prelude.{IfSome, Option}
use Rattle.reach.specs.Knowing.{TellsKnown}
use Rattle.reach.specs.declared.asking.Told.{Told}
use Rattle.reach.proofs.knowing.known_literals.Goals as goal

pub returns-in-Refuted : goal.returns-in-Refuted
returns-in-Refuted c =
    let joined = c.args.joint.now in
    let literals = c.loop-turn.literals in
    let tells : TellsKnown joined literals c.in-Some.told =
    subst (λ (o : Option Told). IfSome o (TellsKnown joined literals)) c.in-Some.is c.in_ok-told.ensures in
    subst (TellsKnown joined literals) c.in-Refuted.is tells
