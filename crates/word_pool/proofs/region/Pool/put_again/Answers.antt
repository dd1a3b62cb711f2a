use Rattle.std.proofs.Common.{◌≡◌, ◌∙◌, ◌+◌, arith, ap, sym, subst, refl, length, slice_set, slice_index, Some}
use Rattle.std.proofs.lemmas.List.{with_items_is, length-set}
use Rattle.std.specs.FinMap.{get}
use Rattle.word_pool.specs.Region.{Region, used_words, live_ids, IsBounded}
use Rattle.word_pool.specs.Layout.{list_in, slot_length, slots_length}
use Rattle.word_pool.specs.Free.{WritesList}
use Rattle.word_pool.proofs.Lists.{get_list, get_insert_same, get_insert_other}
use Rattle.word_pool.proofs.Changes.{slots_length-set, vacant_last, vacant_pop}
use Rattle.word_pool.proofs.Fitting.{laid_out_fits}
use Rattle.word_pool.proofs.Freeing.{first_listed, put_again_all}
use Rattle.word_pool.proofs.Sound.{bounded, used_is, live_and_vacant}
use Rattle.word_pool.proofs.region.Pool.put_again.Goals as goal

pub returns-in_err-offset-clause-bounded : goal.returns-in_err-offset-clause-bounded
returns-in_err-offset-clause-bounded c = subst IsBounded c.self.view_is (bounded c.self.inside c.self.invariant)

pub use_run-requires-clause-some : goal.use_run-requires-clause-some
use_run-requires-clause-some c =
    let l = rw c.deref.ensures.value at c.in_ok-offset.ensures.listed in
    let f = c.self.invariant.free in
    (f.listed (length c.args.words.now) c.in_ok-offset.offset (first_listed (length c.args.words.now) c.in_ok-offset.offset l.0 l.1 l.2 f)).0

pub use_run-requires-clause-within : goal.use_run-requires-clause-within
use_run-requires-clause-within c =
    let l = rw c.deref.ensures.value at c.in_ok-offset.ensures.listed in
    let f = c.self.invariant.free in
    rw c.deref_mut.ensures.value (f.within (length c.args.words.now) c.in_ok-offset.offset (first_listed (length c.args.words.now) c.in_ok-offset.offset l.0 l.1 l.2 f))

pub overflow_cast-words : goal.overflow_cast-words
overflow_cast-words c =
    let l = rw c.deref.ensures.value at c.in_ok-offset.ensures.listed in
    let f = c.self.invariant.free in
    let within = f.within (length c.args.words.now) c.in_ok-offset.offset (first_listed (length c.args.words.now) c.in_ok-offset.offset l.0 l.1 l.2 f) in
    omega (arith, within, c.self.inside.words.ok.0, c.self.invariant.region_in_room, c.self.invariant.room_small)

pub invariant_of-self : goal.invariant_of-self
invariant_of-self c =
    let l = rw c.deref.ensures.value at c.in_ok-offset.ensures.listed in
    let known = vacant_last c.self.inside.slots.items c.self.inside.vacant.items c.pop.new.self.items c.in-Some.index c.self.invariant.vacancies c.in-Some.ensures.items in
    let w : WritesList c.self.inside.words.items c.in_ok-offset.offset c.args.words.now c.use_run.new.words =
    subst (λ ws. WritesList ws c.in_ok-offset.offset c.args.words.now c.use_run.new.words) c.deref_mut.ensures.value c.use_run.ensures.written in
    let next : c.use_run.new.firsts ≡ slice_set c.self.inside.firsts.items (length c.args.words.now) (slice_index c.self.inside.words.items c.in_ok-offset.offset) =
    c.use_run.ensures.next ∙ ap (λ fs. slice_set fs (length c.args.words.now) (slice_index c.deref_mut.result.now c.in_ok-offset.offset)) c.deref_mut-2.ensures.value
    ∙ ap (λ ws. slice_set c.self.inside.firsts.items (length c.args.words.now) (slice_index ws c.in_ok-offset.offset)) c.deref_mut.ensures.value in
    let words_are = with_items_is c.self.inside.words c.use_run.new.words (w.same_length ∙ sym c.self.inside.words.ok.0) in
    let firsts_are = with_items_is c.self.inside.firsts c.use_run.new.firsts (ap length next ∙ length-set c.self.inside.firsts.items (length c.args.words.now) (slice_index c.self.inside.words.items c.in_ok-offset.offset) ∙ sym c.self.inside.firsts.ok.0) in
    let all = put_again_all c.in_ok-offset.offset c.in-Some.index c.args.words.now _ c.self.invariant.layout l.0 l.1 l.2 known.0 refl refl w next c.self.invariant.free in
    let at = first_listed (length c.args.words.now) c.in_ok-offset.offset l.0 l.1 l.2 c.self.invariant.free in
    let used_is_total : c.self.inside.used + length c.args.words.now ≡ slots_length (slice_set c.self.inside.slots.items c.in-Some.index (Some record { offset = c.in_ok-offset.offset; length = length c.args.words.now; head = 0 })) = omega (
      arith,
      c.self.invariant.used_is,
      ap slot_length known.1,
      slots_length-set c.self.inside.slots.items c.in-Some.index (Some record { offset = c.in_ok-offset.offset; length = length c.args.words.now; head = 0 }) known.0,
    ) in
    record {
      layout = rw words_are all.0;
      vacancies = vacant_pop c.self.inside.slots.items c.self.inside.vacant.items c.pop.new.self.items c.in-Some.index _ c.self.invariant.vacancies c.in-Some.ensures.items;
      free = rw (words_are, firsts_are) all.1;
      used_is = used_is_total;
      used_in_region = omega (arith, laid_out_fits all.0, w.same_length, c.self.inside.words.ok.0);
      region_in_room = c.self.invariant.region_in_room;
      room_small = c.self.invariant.room_small;
      ids_small = c.self.invariant.ids_small;
      room_is_there = c.self.invariant.room_is_there;
      every_id_fits = omega (arith, c.self.invariant.every_id_fits, c.in-Some.ensures.capacity);
    }

pub returns-clause-new_id : goal.returns-clause-new_id
returns-clause-new_id c =
    let known = vacant_last c.self.inside.slots.items c.self.inside.vacant.items c.pop.new.self.items c.in-Some.index c.self.invariant.vacancies c.in-Some.ensures.items in
    rw (← c.self.view_is) (get_list c.self.inside.words.items c.self.inside.slots.items c.in-Some.index ∙ ap (list_in c.self.inside.words.items) known.1)

pub returns-clause-lists : goal.returns-clause-lists
returns-clause-lists c =
    let l = rw c.deref.ensures.value at c.in_ok-offset.ensures.listed in
    let known = vacant_last c.self.inside.slots.items c.self.inside.vacant.items c.pop.new.self.items c.in-Some.index c.self.invariant.vacancies c.in-Some.ensures.items in
    let w : WritesList c.self.inside.words.items c.in_ok-offset.offset c.args.words.now c.use_run.new.words =
    subst (λ ws. WritesList ws c.in_ok-offset.offset c.args.words.now c.use_run.new.words) c.deref_mut.ensures.value c.use_run.ensures.written in
    let next : c.use_run.new.firsts ≡ slice_set c.self.inside.firsts.items (length c.args.words.now) (slice_index c.self.inside.words.items c.in_ok-offset.offset) =
    c.use_run.ensures.next ∙ ap (λ fs. slice_set fs (length c.args.words.now) (slice_index c.deref_mut.result.now c.in_ok-offset.offset)) c.deref_mut-2.ensures.value
    ∙ ap (λ ws. slice_set c.self.inside.firsts.items (length c.args.words.now) (slice_index ws c.in_ok-offset.offset)) c.deref_mut.ensures.value in
    let words_are = with_items_is c.self.inside.words c.use_run.new.words (w.same_length ∙ sym c.self.inside.words.ok.0) in
    let all = put_again_all c.in_ok-offset.offset c.in-Some.index c.args.words.now _ c.self.invariant.layout l.0 l.1 l.2 known.0 refl refl w next c.self.invariant.free in
    rw (words_are, ← c.self.view_is) all.2

pub returns-clause-stored : goal.returns-clause-stored
returns-clause-stored c = ap (λ lists. get lists c.in-Some.index) (returns-clause-lists c) ∙ get_insert_same c.args.self.now.lists c.in-Some.index c.args.words.now

pub returns-clause-others : goal.returns-clause-others
returns-clause-others c = λ other ne. ap (λ lists. get lists other) (returns-clause-lists c) ∙ get_insert_other c.args.self.now.lists c.in-Some.index other c.args.words.now ne

pub returns-clause-used : goal.returns-clause-used
returns-clause-used c = omega (arith, used_is _ (invariant_of-self c), used_is c.self.inside c.self.invariant, ap used_words c.self.view_is)

pub returns-clause-live : goal.returns-clause-live
returns-clause-live c = omega (arith, live_and_vacant _ (invariant_of-self c), live_and_vacant c.self.inside c.self.invariant, ap live_ids c.self.view_is, c.in-Some.ensures.len)

pub returns-clause-free_words : goal.returns-clause-free_words
returns-clause-free_words c =
    let s = invariant_of-self c in
    omega (arith, s.used_in_region, s.region_in_room, ap (λ (r : Region). r.free_words) c.self.view_is)

pub returns-clause-bounded : goal.returns-clause-bounded
returns-clause-bounded c = bounded _ (invariant_of-self c)
