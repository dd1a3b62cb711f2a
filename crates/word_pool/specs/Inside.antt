-- The fields of a pool: what they stand for, and what they keep.
use Rattle.std.specs.Prelude.{◌≡◌, ◌-◌, ◌<◌, ◌≤◌, ◌^◌, vec_len, vec_capacity}
use Rattle.word_pool.specs.declared.region.Pool.TheInside.{Inside}
use Rattle.word_pool.specs.declared.region.TheConstants.{MOST_WORDS}
use Rattle.word_pool.specs.Region.{Region}
use Rattle.word_pool.specs.Free.{IsFree}
use Rattle.word_pool.specs.Layout.{lists_from, slots_length, IsLaidOut, IsVacantList}

-- the region that the fields stand for
abbrev pub region_of : Inside → Region
region_of a = record {
  lists = lists_from a.words.items 0 a.slots.items;
  spare_words = a.room - vec_len a.words;
  spare_ids = vec_len a.vacant;
  free_words = a.room - a.used;
}

-- the words that were written are within the room, and the rest of the room is spare
pub record IsSound (a : Inside) : Type 0 where
  pub layout : IsLaidOut a.words.items a.slots.items
  pub vacancies : IsVacantList a.slots.items a.vacant.items
  pub free : IsFree a.words.items a.firsts.items a.slots.items
  pub used_is : a.used ≡ slots_length a.slots.items
  pub used_in_region : a.used ≤ vec_len a.words
  pub region_in_room : vec_len a.words ≤ a.room
  pub room_small : a.room ≤ MOST_WORDS
  pub ids_small : vec_len a.slots < 2 ^ 32
  -- so that put_reserved and give_back take no memory
  pub room_is_there : a.room ≤ vec_capacity a.words
  pub every_id_fits : vec_len a.slots ≤ vec_capacity a.vacant
