use Rattle.std.proofs.Common.{arith, ap}
use Rattle.word_pool.specs.Region.{Region, used_words}
use Rattle.word_pool.proofs.Sound.{bounded, used_is}
use Rattle.word_pool.proofs.region.Pool.grow.Goals as goal

pub invariant_of-self-2 : goal.invariant_of-self-2
invariant_of-self-2 c = record {
  layout = rw c.in_ok-reserve.ensures.items c.self.invariant.layout;
  free = rw c.in_ok-reserve.ensures.items c.self.invariant.free;
  vacancies = c.self.invariant.vacancies;
  used_is = c.self.invariant.used_is;
  used_in_region = omega (arith, c.self.invariant.used_in_region, c.in_ok-reserve.ensures.len);
  region_in_room = omega (arith, c.self.invariant.region_in_room, c.in_ok-reserve.ensures.len);
  room_small = omega (
    arith,
    c.self.invariant.room_small,
    c.self.invariant.used_in_region,
    c.self.invariant.region_in_room,
    c.requires.words,
    used_is c.self.inside c.self.invariant,
    ap used_words c.self.view_is,
    ap (λ (r : Region). r.free_words) c.self.view_is,
    ap (λ (r : Region). r.spare_words) c.self.view_is,
    c.in_ok-reserve.ensures.len,
  );
  ids_small = c.self.invariant.ids_small;
  room_is_there = omega (arith, c.self.invariant.room_is_there, c.in_ok-reserve.ensures.capacity, c.in_ok-reserve.ensures.ok, c.in_ok-reserve.ensures.len);
  every_id_fits = c.self.invariant.every_id_fits;
}

pub returns-clause-bounded : goal.returns-clause-bounded
returns-clause-bounded c = bounded _ (invariant_of-self-2 c)
