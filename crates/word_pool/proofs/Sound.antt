-- What a pool's fields, sound as they are, tell of the region that they stand for.
use Rattle.std.proofs.Common.{◌≡◌, ℕ, ◌+◌, List, Option, Some, None, is_some, IsSome, IsTrue, refl, sym, ap, subst, ◌∙◌, arith, vec_len}
use Rattle.word_pool.specs.declared.runs.Run.{Run}
use Rattle.word_pool.specs.declared.region.Pool.TheInside.{Inside}
use Rattle.word_pool.specs.Region.{Region, total_length, used_words, live_ids, list_of, IsBounded, IsLive}
use Rattle.word_pool.specs.Inside.{region_of, IsSound}
use Rattle.word_pool.specs.Layout.{run_at, list_in, run_words, live_slots}
use Rattle.word_pool.proofs.Lists.{get_list, len_lists, total_lists}

pub used_is : (a : Inside) → IsSound a → used_words (region_of a) ≡ a.used
used_is a s = total_lists a.words.items 0 a.slots.items s.layout.within ∙ sym s.used_is

pub live_is : (a : Inside) → IsSound a → live_ids (region_of a) ≡ live_slots a.slots.items
live_is a s = len_lists a.words.items 0 a.slots.items

pub live_and_vacant : (a : Inside) → IsSound a → live_ids (region_of a) + vec_len a.vacant ≡ vec_len a.slots
live_and_vacant a s = omega (arith, live_is a s, s.vacancies.all, a.slots.ok.0, a.vacant.ok.0)

pub bounded : (a : Inside) → IsSound a → IsBounded (region_of a)
bounded a s = record {
  spare_is_free = omega (arith, s.used_in_region);
  within_limit = omega (arith, used_is a s, s.used_in_region, s.region_in_room, s.room_small);
}

list_of_is : (a : Inside) (id : ℕ) → list_of (region_of a) id ≡ list_in a.words.items (run_at a.slots.items id)
list_of_is a id = get_list a.words.items a.slots.items id

has_list : (words : List ℕ) (slot : Option Run) → is_some (list_in words slot) ≡ is_some slot
has_list words None = refl
has_list words (Some run) = refl

-- an id is live just where it has a run
pub live_is_run : (a : Inside) (region : Region) (index id : ℕ) → region_of a ≡ region → index ≡ id → is_some (list_of region id) ≡ is_some (run_at a.slots.items index)
live_is_run a region index id is same =
    ap (λ (r : Region). is_some (list_of r id)) (sym is) ∙ ap (λ i. is_some (list_of (region_of a) i)) (sym same)
    ∙ ap is_some (list_of_is a index) ∙ has_list a.words.items (run_at a.slots.items index)

pub has_run_of_live : (a : Inside) (region : Region) (index id : ℕ) → region_of a ≡ region → index ≡ id → IsLive region id → IsSome (run_at a.slots.items index)
has_run_of_live a region index id is same live = subst IsTrue (live_is_run a region index id is same) live

-- the list of a run
pub list_of_run : (a : Inside) (region : Region) (index id : ℕ) (run : Run) → region_of a ≡ region → index ≡ id → run_at a.slots.items index ≡ Some run → list_of region id ≡ Some (run_words a.words.items run)
list_of_run a region index id run is same at =
    ap (λ (r : Region). list_of r id) (sym is) ∙ ap (λ i. list_of (region_of a) i) (sym same) ∙ list_of_is a index ∙ ap (list_in a.words.items) at

-- what bounds a region does not read how many ids are spare
pub bounded_same : (old new : Region) → new.lists ≡ old.lists → new.spare_words ≡ old.spare_words → new.free_words ≡ old.free_words → IsBounded old → IsBounded new
bounded_same old new lists spare free b = record {
  spare_is_free = omega (arith, b.spare_is_free);
  within_limit = omega (arith, b.within_limit, ap total_length lists);
}

-- so many ids more are spare, and nothing else changes
pub record AddsIds (old new : Region) (count : ℕ) : Type 0 where
  pub lists : new.lists ≡ old.lists
  pub spare_words : new.spare_words ≡ old.spare_words
  pub spare_ids : new.spare_ids ≡ old.spare_ids + count
  pub free_words : new.free_words ≡ old.free_words
  pub bounded : IsBounded new
