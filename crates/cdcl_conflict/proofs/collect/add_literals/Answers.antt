use Rattle.std.proofs.Common.{length, reverse, append_assoc}
use Rattle.std.proofs.lemmas.Iterator.Adapters.{YieldsList-from_rev_slice}
use Rattle.std.proofs.lemmas.Iterator.Consumers.{YieldsList-turn}
use Rattle.std.proofs.lemmas.List.{length_push}
use Rattle.cdcl_conflict.proofs.Collecting.{literals_more_kept, literals_more_other}
use Rattle.cdcl_conflict.proofs.collect.add_literals.Goals as goal

pub loop-place-preserved-in-Continue-1 : goal.loop-place-preserved-in-Continue-1
loop-place-preserved-in-Continue-1 c =
    let places = reverse c.args.places.now in
    let turn = YieldsList-turn (YieldsList-from_rev_slice c.args.places.now cc) c.loop-place.yielded _ c.loop-place.yielded_by _ _ c.in-Some.place c.in-Some.is c.next.ensures.steps in
    let more = literals_more_kept c.args.standings.now c.args.literals.now places (length c.loop-place.yielded) c.in-Some.place.now turn.0 turn.1 c.in-Kept.is in
    rw (length_push c.loop-place.yielded c.in-Some.place, more, c.in_ok-push.ensures.items, c.loop-place.invariant, c.opposite.ensures, append_assoc)

pub loop-place-preserved : goal.loop-place-preserved
loop-place-preserved c =
    let places = reverse c.args.places.now in
    let turn = YieldsList-turn (YieldsList-from_rev_slice c.args.places.now cc) c.loop-place.yielded _ c.loop-place.yielded_by _ _ c.in-Some.place c.in-Some.is c.next.ensures.steps in
    let more = literals_more_other c.args.standings.now c.args.literals.now places (length c.loop-place.yielded) c.in-Some.place.now turn.0 turn.1 c.in_default.not-Kept in
    rw (length_push c.loop-place.yielded c.in-Some.place, more) c.loop-place.invariant
