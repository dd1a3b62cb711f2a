use Rattle.std.proofs.Common.{arith, refl}
use Rattle.word_pool.specs.Layout.{slots_length, live_slots}
use Rattle.word_pool.proofs.Freeing.{free_none}
use Rattle.word_pool.proofs.Sound.{bounded, used_is, live_and_vacant}
use Rattle.word_pool.proofs.region.Pool.new.Goals as goal

pub invariant_of-result : goal.invariant_of-result
unfolding slots_length live_slots
invariant_of-result c = record {
  layout = rw c.new-2.ensures.items (record { within = λ id. omega arith; apart = λ id next ne a. absurd (omega arith) });
  free = rw c.new-4.ensures.items (free_none _ _ _ (λ size lt. absurd (omega arith)));
  vacancies = rw (c.new-2.ensures.items, c.new-3.ensures.items) (record { in_table = λ k lt. absurd (omega arith); without_run = λ k lt. absurd (omega arith); once = λ j k lt lt'. absurd (omega arith); all = refl });
  used_is = rw c.new-2.ensures.items refl;
  used_in_region = omega arith;
  region_in_room = omega arith;
  room_small = omega arith;
  ids_small = omega arith;
  room_is_there = omega arith;
  every_id_fits = omega arith;
}

pub returns-clause-used : goal.returns-clause-used
returns-clause-used c = used_is _ (invariant_of-result c)

pub returns-clause-live : goal.returns-clause-live
returns-clause-live c = omega (arith, live_and_vacant _ (invariant_of-result c), c.new-2.ensures.len)

pub returns-clause-bounded : goal.returns-clause-bounded
returns-clause-bounded c = bounded _ (invariant_of-result c)
