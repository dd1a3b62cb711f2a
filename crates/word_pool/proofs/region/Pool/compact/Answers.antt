use Rattle.std.proofs.Common.{arith, ap, sym, subst, slice_index, length, take, ◌≡◌, ◌∙◌}
use Rattle.std.proofs.lemmas.List.{with_items_is, get_or-replicate}
use Rattle.word_pool.specs.declared.free.TheConstants.{NO_RUN}
use Rattle.word_pool.specs.Region.{Region, IsBounded}
use Rattle.std.specs.Vec.{with_items}
use Rattle.word_pool.specs.Marks.{HasLengthsOf}
use Rattle.word_pool.specs.Layout.{list_in, run_at, slots_length}
use Rattle.word_pool.proofs.Sound.{bounded}
use Rattle.word_pool.proofs.Lists.{same_lists}
use Rattle.word_pool.proofs.Changes.{vacant_same}
use Rattle.word_pool.proofs.Freeing.{free_none}
use Rattle.word_pool.proofs.Slots.{slots_length_same}
use Rattle.word_pool.proofs.region.Pool.compact.Goals as goal

pub invariant_of-self : goal.invariant_of-self
invariant_of-self c =
    let h = c.close_gaps-end.ensures in
    let words_fit : length c.close_gaps-end.new.words ≡ c.self.inside.words.len = omega (arith, c.self.inside.words.ok.0) in
    let slots_fit : length c.close_gaps-end.new.slots ≡ c.self.inside.slots.len = omega (arith, h.lengths.size, c.self.inside.slots.ok.0) in
    let words_are : c.truncate.new.self.items ≡ take c.close_gaps-end.result c.close_gaps-end.new.words =
    c.truncate.ensures.items ∙ ap (take c.close_gaps-end.result) (with_items_is c.self.inside.words c.close_gaps-end.new.words words_fit) in
    let slots_are : (with_items c.self.inside.slots c.close_gaps-end.new.slots).items ≡ c.close_gaps-end.new.slots = with_items_is c.self.inside.slots c.close_gaps-end.new.slots slots_fit in
    let lengths : HasLengthsOf c.self.inside.slots.items c.close_gaps-end.new.slots = subst (λ slots. HasLengthsOf slots c.close_gaps-end.new.slots) c.deref_mut-then-self-len.ensures.value h.lengths in
    let end : c.close_gaps-end.result ≡ slots_length c.self.inside.slots.items = h.end ∙ ap slots_length c.deref_mut-then-self-len.ensures.value in
    record {
      layout = rw (words_are, slots_are) h.laid_out;
      free = free_none _ c.fill.new.self.items _ (λ size lt. ap (λ items. slice_index items size) (c.fill.ensures.items (λ y e. e))
          ∙ get_or-replicate c.self.inside.firsts.len size NO_RUN 0 (omega (arith, c.fill.ensures.len, c.fill.new.self.ok.0)));
      vacancies = rw slots_are (vacant_same c.self.inside.vacant.items lengths c.self.invariant.vacancies);
      used_is = rw slots_are (c.self.invariant.used_is ∙ sym (slots_length_same lengths));
      used_in_region = omega (arith, c.self.invariant.used_is, end, h.within, c.truncate.ensures.len, c.deref_mut.ensures.len, words_fit);
      region_in_room = omega (arith, c.self.invariant.region_in_room, c.truncate.ensures.len);
      room_small = c.self.invariant.room_small;
      ids_small = c.self.invariant.ids_small;
      room_is_there = omega (arith, c.self.invariant.room_is_there, c.truncate.ensures.capacity);
      every_id_fits = c.self.invariant.every_id_fits;
    }

pub returns-then-self-len-clause-lists : goal.returns-then-self-len-clause-lists
returns-then-self-len-clause-lists c =
    let h = c.close_gaps-end.ensures in
    let words_fit : length c.close_gaps-end.new.words ≡ c.self.inside.words.len = omega (arith, c.self.inside.words.ok.0) in
    let slots_fit : length c.close_gaps-end.new.slots ≡ c.self.inside.slots.len = omega (arith, h.lengths.size, c.self.inside.slots.ok.0) in
    let words_are : c.truncate.new.self.items ≡ take c.close_gaps-end.result c.close_gaps-end.new.words =
    c.truncate.ensures.items ∙ ap (take c.close_gaps-end.result) (with_items_is c.self.inside.words c.close_gaps-end.new.words words_fit) in
    let slots_are : (with_items c.self.inside.slots c.close_gaps-end.new.slots).items ≡ c.close_gaps-end.new.slots = with_items_is c.self.inside.slots c.close_gaps-end.new.slots slots_fit in
    rw (words_are, slots_are)
    (same_lists c.self.inside.words.items (take c.close_gaps-end.result c.close_gaps-end.new.words) c.self.inside.slots.items c.close_gaps-end.new.slots
    (λ id. h.lists id ∙ ap (λ words. list_in words (run_at c.deref_mut-then-self-len.result.now id)) c.deref_mut.ensures.value
    ∙ ap (λ slots. list_in c.self.inside.words.items (run_at slots id)) c.deref_mut-then-self-len.ensures.value)
    ∙ ap (λ (r : Region). r.lists) c.self.view_is)

pub returns-then-self-len-clause-bounded : goal.returns-then-self-len-clause-bounded
returns-then-self-len-clause-bounded c = bounded _ (invariant_of-self c)

pub returns-else-self-len-clause-bounded : goal.returns-else-self-len-clause-bounded
returns-else-self-len-clause-bounded c = subst IsBounded c.self.view_is (bounded c.self.inside c.self.invariant)
