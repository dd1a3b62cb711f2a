use Rattle.word_pool.proofs.Freeing.{free_longer}
use Rattle.word_pool.proofs.region.Pool.list_length.Goals as goal

pub invariant_of-self : goal.invariant_of-self
invariant_of-self c = record {
  layout = c.self.invariant.layout;
  vacancies = c.self.invariant.vacancies;
  free = free_longer c.add_lengths.ensures c.self.invariant.free;
  used_is = c.self.invariant.used_is;
  used_in_region = c.self.invariant.used_in_region;
  region_in_room = c.self.invariant.region_in_room;
  room_small = c.self.invariant.room_small;
  ids_small = c.self.invariant.ids_small;
  room_is_there = c.self.invariant.room_is_there;
  every_id_fits = c.self.invariant.every_id_fits;
}

pub invariant_of-self-then-len-size : goal.invariant_of-self-then-len-size
invariant_of-self-then-len-size c = record {
  layout = c.self.invariant.layout;
  vacancies = c.self.invariant.vacancies;
  free = free_longer c.add_lengths.ensures c.self.invariant.free;
  used_is = c.self.invariant.used_is;
  used_in_region = c.self.invariant.used_in_region;
  region_in_room = c.self.invariant.region_in_room;
  room_small = c.self.invariant.room_small;
  ids_small = c.self.invariant.ids_small;
  room_is_there = c.self.invariant.room_is_there;
  every_id_fits = c.self.invariant.every_id_fits;
}
