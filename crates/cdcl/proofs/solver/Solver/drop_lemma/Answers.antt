use Rattle.std.proofs.Common.{refl, arith}
use Rattle.cdcl.proofs.Reducing.{number_fits, reduced_by}
use Rattle.cdcl.proofs.solver.Solver.drop_lemma.Goals as goal

pub push-requires-clause-entry : goal.push-requires-clause-entry
push-requires-clause-entry c =
    number_fits c.args.self.now c.args.number c.requires.ready (omega (arith, c.words-few.ensures.is, c.words-few.ensures.few)) c.requires.few (rw c.if-can_drop.true at c.can_drop.ensures)

pub returns-in_ok-push : goal.returns-in_ok-push
returns-in_ok-push c =
    reduced_by c.args.self.now _ c.args.number c.requires.ready (rw c.if-can_drop.true at c.can_drop.ensures) refl refl c.in_ok-push.ensures.ok c.remove.ensures
