use Rattle.std.proofs.Common.{◌≡◌, ◌+◌, ◌-◌, ◌/◌, ◌∙◌, set, get_or, slice_index, None, IsSome, arith}
use Rattle.std.specs.Vec.{with_items}
use Rattle.std.proofs.lemmas.List.{with_items_is}
use Rattle.clause_store.specs.Fields.{begin_at, clauses_of}
use Rattle.clause_store.proofs.Storing.{stands, removes, Holds}
use Rattle.clause_store.proofs.store.Store.remove.Goals as goal

pub take_out-requires-clause-within : goal.take_out-requires-clause-within
take_out-requires-clause-within c =
    let store = c.self.inside in
    let ends : c.deref_mut.result.now ≡ store.ends.items = c.deref_mut.ensures.value in
    let some : IsSome (get_or (clauses_of store.words.items store.ends.items) c.args.place None) = rw (c.self.view_is) c.requires in
    let at = stands store.words.items store.ends.items c.args.place c.self.invariant.rising some in
    rw ends at.within

pub take_out-requires-clause-is_there : goal.take_out-requires-clause-is_there
take_out-requires-clause-is_there c =
    let store = c.self.inside in
    let ends : c.deref_mut.result.now ≡ store.ends.items = c.deref_mut.ensures.value in
    let some : IsSome (get_or (clauses_of store.words.items store.ends.items) c.args.place None) = rw (c.self.view_is) c.requires in
    let at = stands store.words.items store.ends.items c.args.place c.self.invariant.rising some in
    rw ends at.even

pub take_out-requires-clause-order : goal.take_out-requires-clause-order
take_out-requires-clause-order c =
    let store = c.self.inside in
    let ends : c.deref_mut.result.now ≡ store.ends.items = c.deref_mut.ensures.value in
    let some : IsSome (get_or (clauses_of store.words.items store.ends.items) c.args.place None) = rw (c.self.view_is) c.requires in
    let at = stands store.words.items store.ends.items c.args.place c.self.invariant.rising some in
    rw ends at.lies.order

pub overflow_sub-self : goal.overflow_sub-self
overflow_sub-self c =
    let store = c.self.inside in
    let ends : c.deref_mut.result.now ≡ store.ends.items = c.deref_mut.ensures.value in
    let some : IsSome (get_or (clauses_of store.words.items store.ends.items) c.args.place None) = rw (c.self.view_is) c.requires in
    let holds : Holds store.words.items store.ends.items store.used store.live = record { rising = c.self.invariant.rising; used_is = c.self.invariant.used; live_is = c.self.invariant.live } in
    let gone = removes store.words.items store.ends.items store.used store.live c.args.place holds some in
    let size : c.take_out.result ≡ slice_index store.ends.items c.args.place / 2 - begin_at 0 store.ends.items c.args.place = rw (← ends) c.take_out.ensures.size in
    omega (arith, size, gone.size)

pub overflow_sub-self-2 : goal.overflow_sub-self-2
overflow_sub-self-2 c =
    let store = c.self.inside in
    let ends : c.deref_mut.result.now ≡ store.ends.items = c.deref_mut.ensures.value in
    let some : IsSome (get_or (clauses_of store.words.items store.ends.items) c.args.place None) = rw (c.self.view_is) c.requires in
    let holds : Holds store.words.items store.ends.items store.used store.live = record { rising = c.self.invariant.rising; used_is = c.self.invariant.used; live_is = c.self.invariant.live } in
    let gone = removes store.words.items store.ends.items store.used store.live c.args.place holds some in
    gone.one

pub invariant_of-self : goal.invariant_of-self
invariant_of-self c =
    let store = c.self.inside in
    let ends : c.deref_mut.result.now ≡ store.ends.items = c.deref_mut.ensures.value in
    let some : IsSome (get_or (clauses_of store.words.items store.ends.items) c.args.place None) = rw (c.self.view_is) c.requires in
    let holds : Holds store.words.items store.ends.items store.used store.live = record { rising = c.self.invariant.rising; used_is = c.self.invariant.used; live_is = c.self.invariant.live } in
    let gone = removes store.words.items store.ends.items store.used store.live c.args.place holds some in
    let size : c.take_out.result ≡ slice_index store.ends.items c.args.place / 2 - begin_at 0 store.ends.items c.args.place = rw (← ends) c.take_out.ensures.size in
    let marked : (with_items store.ends c.take_out.new.ends).items ≡ set store.ends.items c.args.place (slice_index store.ends.items c.args.place + 1) =
    with_items_is store.ends c.take_out.new.ends (omega (arith, c.take_out.auto.ends, c.deref_mut.ensures.len)) ∙ rw (← ends) c.take_out.ensures.marked in
    record {
      rising = rw marked gone.holds.rising;
      few = c.self.invariant.few;
      used = rw (marked, size) gone.holds.used_is;
      live = rw marked gone.holds.live_is;
    }

pub returns : goal.returns
returns c =
    let store = c.self.inside in
    let ends : c.deref_mut.result.now ≡ store.ends.items = c.deref_mut.ensures.value in
    let some : IsSome (get_or (clauses_of store.words.items store.ends.items) c.args.place None) = rw (c.self.view_is) c.requires in
    let holds : Holds store.words.items store.ends.items store.used store.live = record { rising = c.self.invariant.rising; used_is = c.self.invariant.used; live_is = c.self.invariant.live } in
    let gone = removes store.words.items store.ends.items store.used store.live c.args.place holds some in
    let marked : (with_items store.ends c.take_out.new.ends).items ≡ set store.ends.items c.args.place (slice_index store.ends.items c.args.place + 1) =
    with_items_is store.ends c.take_out.new.ends (omega (arith, c.take_out.auto.ends, c.deref_mut.ensures.len)) ∙ rw (← ends) c.take_out.ensures.marked in
    c.compact_seldom.ensures ∙ rw (marked, ← c.self.view_is) gone.clauses
