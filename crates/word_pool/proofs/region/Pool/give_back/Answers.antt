use Rattle.std.proofs.Common.{arith, ap, sym, length, ◌+◌, ◌≤◌, ◌∙◌, None}
use Rattle.std.specs.FinMap.{get, remove}
use Rattle.word_pool.specs.Region.{used_words, live_ids, Region}
use Rattle.word_pool.specs.Layout.{slot_offset, slot_length, lists_from}
use Rattle.word_pool.specs.Free.{ListsRun}
use Rattle.std.proofs.lemmas.List.{with_items_is}
use Rattle.word_pool.proofs.Changes.{live_count, laid_out-remove, vacant-remove, live_slots-set, slots_length-set}
use Rattle.word_pool.proofs.Freeing.{give_back_lists, free_give, listed_size, laid_out_longer}
use Rattle.word_pool.proofs.Slots.{length-run_words}
use Rattle.word_pool.proofs.Lists.{get_remove_same, get_remove_other}
use Rattle.word_pool.proofs.Sound.{bounded, has_run_of_live, list_of_run, live_and_vacant, used_is}
use Rattle.word_pool.proofs.region.Pool.give_back.Goals as goal

pub live_run-run-requires : goal.live_run-run-requires
live_run-run-requires c = record { live = rw c.deref.ensures.value (has_run_of_live c.self.inside c.args.self.now c.id.inside.index c.args.id c.self.view_is c.id.view_is c.requires.live) }

pub overflow_sub-self : goal.overflow_sub-self
overflow_sub-self c =
    let run_is = rw c.deref.ensures.value at c.live_run-run.ensures.run in
    let in_table = rw c.deref.ensures.value at c.live_run-run.ensures.in_table in
    omega (arith, c.self.invariant.used_is, ap slot_length run_is, slots_length-set c.self.inside.slots.items c.id.inside.index None in_table)

pub unreachable-requires : goal.unreachable-requires
unreachable-requires c =
    let run_is = rw c.deref.ensures.value at c.live_run-run.ensures.run in
    let in_table = rw c.deref.ensures.value at c.live_run-run.ensures.in_table in
    omega (
      arith,
      c.in_default.ensures.full,
      c.self.invariant.vacancies.all,
      c.self.invariant.every_id_fits,
      ap live_count run_is,
      live_slots-set c.self.inside.slots.items c.id.inside.index None in_table,
      c.self.inside.slots.ok.0,
      c.self.inside.vacant.ok.0,
    )

pub invariant_of-self : goal.invariant_of-self
invariant_of-self c =
    let run_is = rw c.deref.ensures.value at c.live_run-run.ensures.run in
    let in_table = rw c.deref.ensures.value at c.live_run-run.ensures.in_table in
    let listed : ListsRun c.self.inside.words.items c.self.inside.firsts.items c.live_run-run.result c.list_run.new.words c.list_run.new.firsts =
    rw (c.deref_mut.ensures.value, c.deref_mut-2.ensures.value) at c.list_run.ensures in
    let size = listed_size c.live_run-run.result listed in
    let words_are = with_items_is c.self.inside.words c.list_run.new.words (size.0 ∙ sym c.self.inside.words.ok.0) in
    let firsts_are = with_items_is c.self.inside.firsts c.list_run.new.firsts (size.1 ∙ sym c.self.inside.firsts.ok.0) in
    record {
      layout = rw words_are (laid_out_longer _ _ (laid_out-remove c.self.inside.words.items c.self.inside.slots.items c.id.inside.index c.self.invariant.layout in_table) size.0);
      vacancies = rw c.in-Ok.ensures.items (vacant-remove c.self.inside.slots.items c.self.inside.vacant.items c.id.inside.index c.live_run-run.result c.self.invariant.vacancies in_table run_is);
      free = rw (words_are, firsts_are) (free_give c.id.inside.index c.live_run-run.result c.self.invariant.layout in_table run_is listed c.self.invariant.free);
      used_is = omega (arith, c.self.invariant.used_is, ap slot_length run_is, slots_length-set c.self.inside.slots.items c.id.inside.index None in_table);
      used_in_region = omega (arith, c.self.invariant.used_in_region);
      region_in_room = c.self.invariant.region_in_room;
      room_small = c.self.invariant.room_small;
      ids_small = c.self.invariant.ids_small;
      room_is_there = c.self.invariant.room_is_there;
      every_id_fits = omega (arith, c.self.invariant.every_id_fits, c.in-Ok.ensures.capacity);
    }

pub returns-clause-lists : goal.returns-clause-lists
returns-clause-lists c =
    let run_is = rw c.deref.ensures.value at c.live_run-run.ensures.run in
    let in_table = rw c.deref.ensures.value at c.live_run-run.ensures.in_table in
    let listed : ListsRun c.self.inside.words.items c.self.inside.firsts.items c.live_run-run.result c.list_run.new.words c.list_run.new.firsts =
    rw (c.deref_mut.ensures.value, c.deref_mut-2.ensures.value) at c.list_run.ensures in
    let size = listed_size c.live_run-run.result listed in
    let words_are = with_items_is c.self.inside.words c.list_run.new.words (size.0 ∙ sym c.self.inside.words.ok.0) in
    rw words_are (give_back_lists c.id.inside.index c.live_run-run.result c.self.invariant.layout in_table run_is listed)
    ∙ ap (λ i. remove (lists_from c.self.inside.words.items 0 c.self.inside.slots.items) i) c.id.view_is
    ∙ ap (λ (r : Region). remove r.lists c.args.id) c.self.view_is

pub returns-clause-used : goal.returns-clause-used
returns-clause-used c =
    let run_is = rw c.deref.ensures.value at c.live_run-run.ensures.run in
    let in_table = rw c.deref.ensures.value at c.live_run-run.ensures.in_table in
    let within : c.live_run-run.result.offset + c.live_run-run.result.length ≤ length c.self.inside.words.items =
    omega (arith, c.self.invariant.layout.within c.id.inside.index, ap slot_offset run_is, ap slot_length run_is) in
    rw (list_of_run c.self.inside c.args.self.now c.id.inside.index c.args.id c.live_run-run.result c.self.view_is c.id.view_is run_is)
    (omega (
      arith,
      used_is _ (invariant_of-self c),
      used_is c.self.inside c.self.invariant,
      ap used_words c.self.view_is,
      c.self.invariant.used_is,
      ap slot_length run_is,
      slots_length-set c.self.inside.slots.items c.id.inside.index None in_table,
      length-run_words c.self.inside.words.items c.live_run-run.result within,
    ))

pub returns-clause-live_ids : goal.returns-clause-live_ids
returns-clause-live_ids c = omega (arith, live_and_vacant _ (invariant_of-self c), live_and_vacant c.self.inside c.self.invariant, ap live_ids c.self.view_is, c.in-Ok.ensures.len)

pub returns-clause-free_words : goal.returns-clause-free_words
returns-clause-free_words c =
    let run_is = rw c.deref.ensures.value at c.live_run-run.ensures.run in
    let in_table = rw c.deref.ensures.value at c.live_run-run.ensures.in_table in
    let within : c.live_run-run.result.offset + c.live_run-run.result.length ≤ length c.self.inside.words.items =
    omega (arith, c.self.invariant.layout.within c.id.inside.index, ap slot_offset run_is, ap slot_length run_is) in
    rw (list_of_run c.self.inside c.args.self.now c.id.inside.index c.args.id c.live_run-run.result c.self.view_is c.id.view_is run_is)
    (omega (
      arith,
      ap (λ (r : Region). r.free_words) c.self.view_is,
      c.self.invariant.used_is,
      c.self.invariant.used_in_region,
      c.self.invariant.region_in_room,
      ap slot_length run_is,
      slots_length-set c.self.inside.slots.items c.id.inside.index None in_table,
      length-run_words c.self.inside.words.items c.live_run-run.result within,
    ))

pub returns-clause-bounded : goal.returns-clause-bounded
returns-clause-bounded c = bounded _ (invariant_of-self c)

pub returns-clause-gone : goal.returns-clause-gone
returns-clause-gone c = ap (λ lists. get lists c.args.id) (returns-clause-lists c) ∙ get_remove_same c.args.self.now.lists c.args.id

pub returns-clause-others : goal.returns-clause-others
returns-clause-others c = λ other ne. ap (λ lists. get lists other) (returns-clause-lists c) ∙ get_remove_other c.args.self.now.lists c.args.id other ne
