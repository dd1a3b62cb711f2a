use Rattle.std.proofs.Common.{[], slice_index_or}
use Rattle.cdcl.proofs.Returning.{one_item, two_items, first_not_false, watch_first, watch_second, two_differ, lower_second, can_learn}
use Rattle.cdcl.proofs.attach.attach_lemma.Goals as goal

pub attach_unit-requires-clause-not_false : goal.attach_unit-requires-clause-not_false
attach_unit-requires-clause-not_false c =
    let lemma = c.args.lemma.now in
    let can = c.requires in
    rw c.go_back.ensures
    (first_not_false c.args.propagator.now lemma (slice_index_or lemma 0 0) [] 0 can.settled can (one_item lemma c.in-len1.len_at_least c.in-len1.len_below) can.levels)

pub attach-requires-clause-differ : goal.attach-requires-clause-differ
attach-requires-clause-differ c =
    let lemma = c.args.lemma.now in
    let can = c.requires in
    let is = two_items lemma c.in-len2-up.len_at_least in
    two_differ c.args.propagator.now lemma (slice_index_or lemma 0 0) (slice_index_or lemma 1 0) is.0 can.settled can is.1

pub attach-requires-clause-first_watch : goal.attach-requires-clause-first_watch
attach-requires-clause-first_watch c =
    let lemma = c.args.lemma.now in
    let can = c.requires in
    let is = two_items lemma c.in-len2-up.len_at_least in
    rw c.go_back-in-len2-up.ensures (watch_first c.args.propagator.now lemma (slice_index_or lemma 0 0) (slice_index_or lemma 1 0) is.0 can.settled can is.1)

pub attach-requires-clause-second_watch : goal.attach-requires-clause-second_watch
attach-requires-clause-second_watch c =
    let lemma = c.args.lemma.now in
    let can = c.requires in
    let is = two_items lemma c.in-len2-up.len_at_least in
    rw c.go_back-in-len2-up.ensures (watch_second c.args.propagator.now lemma (slice_index_or lemma 0 0) (slice_index_or lemma 1 0) is.0 can.settled can is.1)

pub level_below-level-requires : goal.level_below-level-requires
level_below-level-requires c =
    let lemma = c.args.lemma.now in
    let is = two_items lemma c.in-len2-up.len_at_least in
    lower_second c.args.propagator.now lemma (slice_index_or lemma 0 0) (slice_index_or lemma 1 0) is.0 c.requires is.1

pub learn-requires-clause-learn : goal.learn-requires-clause-learn
learn-requires-clause-learn c =
    let lemma = c.args.lemma.now in
    let can = c.requires in
    let is = two_items lemma c.in-len2-up.len_at_least in
    rw c.go_back-in-len2-up-2.ensures
    (can_learn c.args.propagator.now lemma (slice_index_or lemma 0 0) (slice_index_or lemma 1 0) is.0 c.level_below-level.result can.settled can is.1 c.level_below-level.ensures)
