use Rattle.std.proofs.Common.{arith, ap, refl, ◌∙◌, length, Some}
use Rattle.std.specs.FinMap.{get}
use Rattle.word_pool.specs.Region.{Region, used_words, live_ids}
use Rattle.word_pool.specs.Layout.{list_in, slot_length}
use Rattle.word_pool.proofs.Lists.{get_list, get_insert_same, get_insert_other}
use Rattle.word_pool.proofs.Changes.{laid_out-insert, slots_length-set, vacant_last, vacant_pop, put_lists}
use Rattle.word_pool.proofs.Freeing.{free_append}
use Rattle.word_pool.proofs.Sound.{bounded, used_is, live_and_vacant}
use Rattle.word_pool.proofs.region.Pool.put_reserved.Goals as goal

pub invariant_of-self : goal.invariant_of-self
invariant_of-self c =
    let known = vacant_last c.self.inside.slots.items c.self.inside.vacant.items c.pop.new.self.items c.in-Some.index c.self.invariant.vacancies c.in-Some.ensures.items in
    record {
      layout = rw c.in-Ok.ensures.items (laid_out-insert c.self.inside.words.items c.args.words.now c.self.inside.slots.items c.in-Some.index _ c.self.invariant.layout known.0 (omega (arith, c.self.inside.words.ok.0)) refl);
      vacancies = vacant_pop c.self.inside.slots.items c.self.inside.vacant.items c.pop.new.self.items c.in-Some.index _ c.self.invariant.vacancies c.in-Some.ensures.items;
      free = rw c.in-Ok.ensures.items (free_append c.args.words.now c.in-Some.index _ known.0 (omega (arith, c.self.inside.words.ok.0)) c.self.invariant.free);
      used_is = omega (arith, c.self.invariant.used_is, ap slot_length known.1, slots_length-set c.self.inside.slots.items c.in-Some.index (Some record { offset = c.len-offset.result; length = length c.args.words.now; head = 0 }) known.0);
      used_in_region = omega (arith, c.in-Ok.ensures.len, c.self.invariant.used_in_region);
      region_in_room = omega (arith, c.in-Ok.ensures.len, c.requires.words, ap (λ (r : Region). r.spare_words) c.self.view_is);
      room_small = c.self.invariant.room_small;
      ids_small = c.self.invariant.ids_small;
      room_is_there = omega (arith, c.self.invariant.room_is_there, c.in-Ok.ensures.capacity);
      every_id_fits = omega (arith, c.self.invariant.every_id_fits, c.in-Some.ensures.capacity);
    }

pub returns-clause-new_id : goal.returns-clause-new_id
returns-clause-new_id c =
    let known = vacant_last c.self.inside.slots.items c.self.inside.vacant.items c.pop.new.self.items c.in-Some.index c.self.invariant.vacancies c.in-Some.ensures.items in
    rw (← c.self.view_is) (get_list c.self.inside.words.items c.self.inside.slots.items c.in-Some.index ∙ ap (list_in c.self.inside.words.items) known.1)

pub returns-clause-lists : goal.returns-clause-lists
returns-clause-lists c =
    let known = vacant_last c.self.inside.slots.items c.self.inside.vacant.items c.pop.new.self.items c.in-Some.index c.self.invariant.vacancies c.in-Some.ensures.items in
    rw (c.in-Ok.ensures.items, ← c.self.view_is)
    (put_lists c.self.inside.words.items c.args.words.now c.self.inside.slots.items c.in-Some.index _ c.self.invariant.layout known.0 (omega (arith, c.self.inside.words.ok.0)) refl)

pub returns-clause-used : goal.returns-clause-used
returns-clause-used c = omega (arith, used_is _ (invariant_of-self c), used_is c.self.inside c.self.invariant, ap used_words c.self.view_is)

pub returns-clause-live : goal.returns-clause-live
returns-clause-live c = omega (arith, live_and_vacant _ (invariant_of-self c), live_and_vacant c.self.inside c.self.invariant, ap live_ids c.self.view_is, c.in-Some.ensures.len)

pub returns-clause-bounded : goal.returns-clause-bounded
returns-clause-bounded c = bounded _ (invariant_of-self c)

pub returns-clause-stored : goal.returns-clause-stored
returns-clause-stored c = ap (λ lists. get lists c.in-Some.index) (returns-clause-lists c) ∙ get_insert_same c.args.self.now.lists c.in-Some.index c.args.words.now

pub returns-clause-others : goal.returns-clause-others
returns-clause-others c = λ other ne. ap (λ lists. get lists other) (returns-clause-lists c) ∙ get_insert_other c.args.self.now.lists c.in-Some.index other c.args.words.now ne
