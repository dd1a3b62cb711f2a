use Rattle.std.proofs.Common.{◌∙◌}
use Rattle.std.proofs.lemmas.Result.{IfOk-weaker}
use Rattle.cdcl_incremental.specs.Standing.{IsStored, IsPut}
use Rattle.cdcl_incremental.proofs.Rests.{stored_of, stored_whole}
use Rattle.cdcl_incremental.proofs.Standing.{rest_within}
use Rattle.cdcl_incremental.proofs.storing.store.Goals as goal

pub put-requires-clause-within : goal.put-requires-clause-within
put-requires-clause-within c =
    let left = rw c.trail-2.ensures.is at c.in_ok-rest.ensures in
    rw (c.deref-2.ensures.value, c.is_refuted.ensures.variables, c.store_above.ensures.variables)
    (rest_within c.args.propagator.now.path.variables c.args.clause.now c.in_ok-rest.rest.items c.requires.within left.among)

pub put-requires-clause-not_false : goal.put-requires-clause-not_false
put-requires-clause-not_false c =
    let left = rw c.trail-2.ensures.is at c.in_ok-rest.ensures in
    rw c.deref-2.ensures.value left.not_false

pub returns-then-branch-clause-stored : goal.returns-then-branch-clause-stored
returns-then-branch-clause-stored c =
    let numbers = c.read_literals.new.numbers.items in
    let stored = rw (c.if-branch.true, c.deref.ensures.value) at c.in_ok-store_above.ensures.stored in
    (numbers, stored_whole c.args.propagator.now.clauses c.args.clause.now numbers c.store_above.new.propagator.clauses c.in_ok-read_literals.ensures.is stored)

pub returns-clause-stored : goal.returns-clause-stored
returns-clause-stored c =
    let state = c.is_refuted.new.propagator in
    let clause = c.args.clause.now in
    let rest = c.in_ok-rest.rest.items in
    let new = c.put.new.propagator.clauses in
    let left = rw c.trail-2.ensures.is at c.in_ok-rest.ensures in
    let same = c.is_refuted.ensures.clauses ∙ (rw c.if-branch.false at c.in_ok-store_above.ensures.not_stored) in
    IfOk-weaker c.put.result (IsPut state.clauses rest new) (IsStored c.args.propagator.now.clauses clause new)
    (λ stored put. rw same at (stored_of state clause rest new c.trail-2.ensures.settled c.is_refuted.ensures.lowest left stored put))
    (rw c.deref-2.ensures.value at c.put.ensures.put)
