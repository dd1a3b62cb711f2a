use Rattle.std.proofs.Common.{◌≡◌, ◌++◌, ◌∷◌, [], refl}
use Rattle.test_solver.proofs.OneLiteral.{worked_clauses, worked_trail, worked_conflict}
use Rattle.test_solver.proofs.conflicts.a_literal_and_its_negation.Goals as goal

pub analyze-requires-clause-trail : goal.analyze-requires-clause-trail
analyze-requires-clause-trail g c =
    let stored : c.push-2.new.self ≡ worked_clauses = rw (c.in_ok-push-2.ensures.ok, c.in_ok-push.ensures.ok, c.new-clauses.ensures) refl in
    worked_trail c.push-2.new.self stored

pub analyze-requires-clause-conflict : goal.analyze-requires-clause-conflict
analyze-requires-clause-conflict g c =
    let stored : c.push-2.new.self ≡ worked_clauses = rw (c.in_ok-push-2.ensures.ok, c.in_ok-push.ensures.ok, c.new-clauses.ensures) refl in
    worked_conflict c.push-2.new.self stored
