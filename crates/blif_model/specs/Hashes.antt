-- How names are looked up: each is in a slot behind the place of its hash, and where none of these slots was empty among
-- the others, by its bytes.
use Rattle.std.specs.Prelude.{◌≡◌, ℕ, ◌+◌, ◌-◌, ◌*◌, ◌/◌, ◌%◌, ◌^◌, ◌<◌, ◌≤◌, ◌⊎◌, min, List, [], fold, length, slice_index_or, Option, Some}
use Rattle.std.specs.BTreeMap.{BTreeMap, get_by}
use Rattle.std.specs.Cmp.Lexicographic.{slice_cmp}
use Rattle.std.specs.Ordering.{nat_cmp}
use denote.Ref.{Bor}
use Rattle.blif_model.specs.declared.names.TheConstants.{PROBES, SPREAD}
use Rattle.blif_model.specs.Names.{place_of}

-- the hash of a name
abbrev pub with_byte : ℕ → ℕ → ℕ
with_byte hash byte = (hash * 257 % 2 ^ 64 + byte) % 2 ^ 64

unfoldable pub hash_of : List ℕ → ℕ
hash_of name = fold with_byte 0 name

-- the first slot of a name among so many: its hash, spread over all slots behind which enough of them are
unfoldable pub start_of : ℕ → List ℕ → ℕ
start_of size name = hash_of name * SPREAD % 2 ^ 64 * (size - (PROBES - 1)) / 2 ^ 64

-- where the slots of a name end
abbrev pub end_of : ℕ → List ℕ → ℕ
end_of size name = min (start_of size name + PROBES) size

-- what a slot holds: 0 where it is empty, else one more than the number of its name
abbrev pub slot_at : List ℕ → ℕ → ℕ
slot_at slots place = slice_index_or slots place 0

-- the slots of a name in front of a place are taken
abbrev pub AreTaken : List ℕ → List ℕ → ℕ → Type 0
AreTaken slots name end = (place : ℕ) → start_of (length slots) name ≤ place → place < end → 0 < slot_at slots place

-- a place is one of a name's, and the first of these that has no other name
pub record IsPlaceOf (slots : List ℕ) (name : List ℕ) (content place : ℕ) : Type 0 where
  pub after : start_of (length slots) name ≤ place
  pub before : place < end_of (length slots) name
  pub holds : slot_at slots place ≡ content
  pub taken : AreTaken slots name place

-- the number of a name among those for which no slot was empty
abbrev pub other_of : BTreeMap (Bor (List ℕ)) ℕ → List ℕ → Option ℕ
other_of others name = get_by (λ key. slice_cmp nat_cmp name key.now) others

-- a name is found to have a number: in a slot, or among the others, where all of its slots are taken
abbrev pub IsSeated : List ℕ → BTreeMap (Bor (List ℕ)) ℕ → List ℕ → ℕ → Type 0
IsSeated slots others name number = ((place : ℕ) × IsPlaceOf slots name (number + 1) place)
    ⊎ (AreTaken slots name (end_of (length slots) name) × (other_of others name ≡ Some number))

-- so each of the first names of a list is found to have its number, and nothing else is found
pub record Seats (names : List (List ℕ)) (count : ℕ) (slots : List ℕ) (others : BTreeMap (Bor (List ℕ)) ℕ) : Type 0 where
  pub within : (place : ℕ) → slot_at slots place ≤ count
  pub each : (number : ℕ) → number < count → IsSeated slots others (slice_index_or names number []) number
  pub right : (name : List ℕ) (number : ℕ) → other_of others name ≡ Some number → place_of names name ≡ Some number

-- no two names are equal
abbrev pub AreDistinct : List (List ℕ) → Type 0
AreDistinct names = (number : ℕ) → number < length names → place_of names (slice_index_or names number []) ≡ Some number

pub record Finds (names : List (List ℕ)) (slots : List ℕ) (others : BTreeMap (Bor (List ℕ)) ℕ) : Type 0 where
  pub distinct : AreDistinct names
  pub seats : Seats names (length names) slots others
