-- What a pool is to its callers: a finite map from ids to lists of words, and how much room it has.
use Rattle.std.specs.Prelude.{ℕ, ◌+◌, ◌-◌, ◌≤◌, List, length, Option, IsSome, refl}
use Rattle.std.specs.List.{sum_by}
use Rattle.std.specs.Ordering.{nat_cmp}
use Rattle.std.specs.Coded.{Coded, code_by, coded×, coded_ℕ, coded_list}
use Rattle.std.specs.FinMap.{FinMap, code, get, len, values}
use Rattle.word_pool.specs.declared.region.TheConstants.{MOST_WORDS}

-- the lists of the live ids; how many words and ids can be put with no more memory; how many words of
-- the region no list has
pub record Region : Type 0 where
  pub lists : FinMap nat_cmp (List ℕ)
  pub spare_words : ℕ
  pub spare_ids : ℕ
  pub free_words : ℕ

-- a region is stored as its parts
abbrev pub region_code : Coded Region
region_code =
    code_by (FinMap nat_cmp (List ℕ) × (ℕ × (ℕ × ℕ)))
    (coded× (code coded_ℕ (coded_list coded_ℕ)) (coded× coded_ℕ (coded× coded_ℕ coded_ℕ)))
    (λ region. (region.lists, (region.spare_words, (region.spare_ids, region.free_words))))
    (λ parts. record { lists = parts.0; spare_words = parts.1.0; spare_ids = parts.1.1.0; free_words = parts.1.1.1 })
    (λ _. refl)

-- the words of all lists of a map together
unfoldable pub total_length : FinMap nat_cmp (List ℕ) → ℕ
total_length lists = sum_by (λ words. length words) (values lists)

-- the words of all lists together
abbrev pub used_words : Region → ℕ
used_words region = total_length region.lists

-- how many ids are live
abbrev pub live_ids : Region → ℕ
live_ids region = len region.lists

-- the list of an id, if the id is live
abbrev pub list_of : Region → ℕ → Option (List ℕ)
list_of region id = get region.lists id

-- the id has a list
abbrev pub IsLive : Region → ℕ → Type 0
IsLive region id = IsSome (list_of region id)

-- how many words of the region belong to a list or were given back
abbrev pub filled_words : Region → ℕ
filled_words region = used_words region + (region.free_words - region.spare_words)

-- spare words are free, and the region is no longer than it may be
pub record IsBounded (region : Region) : Type 0 where
  pub spare_is_free : region.spare_words ≤ region.free_words
  pub within_limit : used_words region + region.free_words ≤ MOST_WORDS

-- none of the three numbers is lower
pub record KeepsRoom (old new : Region) : Type 0 where
  pub spare_words : old.spare_words ≤ new.spare_words
  pub spare_ids : old.spare_ids ≤ new.spare_ids
  pub free_words : old.free_words ≤ new.free_words
