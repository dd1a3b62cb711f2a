use Rattle.std.proofs.Common.{inl, arith, ap, sym, refl, length, ◌≡◌, ◌∙◌}
use Rattle.word_pool.specs.Region.{Region, live_ids}
use Rattle.word_pool.specs.Inside.{region_of}
use Rattle.word_pool.specs.Layout.{lists_from}
use Rattle.word_pool.proofs.Changes.{run_at_push, laid_out_push, vacant_push, push_lists, slots_length_push}
use Rattle.word_pool.proofs.Freeing.{free_part}
use Rattle.word_pool.proofs.Sound.{bounded, bounded_same, live_and_vacant}
use Rattle.word_pool.proofs.region.Pool.add_vacant.Goals as goal

pub returns-in_err-reserve-clause-bounded : goal.returns-in_err-reserve-clause-bounded
returns-in_err-reserve-clause-bounded c = bounded_same (region_of c.self.inside) _ refl refl refl (bounded c.self.inside c.self.invariant)

pub returns-in_err-push-clause-bounded : goal.returns-in_err-push-clause-bounded
returns-in_err-push-clause-bounded c = bounded_same (region_of c.self.inside) _ (ap (lists_from c.self.inside.words.items 0) c.in_err-push.ensures.items) refl refl (bounded c.self.inside c.self.invariant)

pub invariant_of-self-2 : goal.invariant_of-self-2
invariant_of-self-2 c =
    let id_is : c.len-id.result ≡ length c.self.inside.slots.items = c.len-id.ensures ∙ c.self.inside.slots.ok.0 in
    record {
      layout = rw c.in_ok-push.ensures.items (laid_out_push c.self.inside.words.items c.self.inside.slots.items c.self.invariant.layout);
      vacancies = rw (c.in_ok-push.ensures.items, c.in-Ok.ensures.items, c.in_ok-reserve.ensures.items, id_is) (vacant_push c.self.inside.slots.items c.self.inside.vacant.items c.self.invariant.vacancies);
      free = rw c.in_ok-push.ensures.items (free_part _ (λ q. inl (run_at_push c.self.inside.slots.items q)) c.self.invariant.free);
      used_is = rw c.in_ok-push.ensures.items (c.self.invariant.used_is ∙ sym (slots_length_push c.self.inside.slots.items));
      used_in_region = c.self.invariant.used_in_region;
      region_in_room = c.self.invariant.region_in_room;
      room_small = c.self.invariant.room_small;
      ids_small = omega (arith, c.requires.ids, live_and_vacant c.self.inside c.self.invariant, ap live_ids c.self.view_is, ap (λ (r : Region). r.spare_ids) c.self.view_is, c.in_ok-push.ensures.len);
      room_is_there = c.self.invariant.room_is_there;
      every_id_fits = omega (
        arith,
        c.in_ok-reserve.ensures.ok,
        c.in_ok-reserve.ensures.len,
        c.len.ensures,
        c.len-id.ensures,
        c.in_ok-push.ensures.len,
        c.in-Ok.ensures.capacity,
        live_and_vacant c.self.inside c.self.invariant,
      );
    }

pub returns-clause-lists : goal.returns-clause-lists
returns-clause-lists c = rw c.in_ok-push.ensures.items (push_lists c.self.inside.words.items c.self.inside.slots.items ∙ ap (λ (r : Region). r.lists) c.self.view_is)

pub returns-clause-bounded : goal.returns-clause-bounded
returns-clause-bounded c = bounded _ (invariant_of-self-2 c)
