-- What a trail keeps of its fields, and what they stand for.
use Rattle.std.specs.Prelude.{◌≡◌, ℕ, ◌*◌, ◌<◌, ◌≤◌, ◌^◌, Bool, true, false, List, length, slice_index, slice_index_or, vec_capacity}
use Rattle.std.specs.List.{All, Contains}
use Rattle.cdcl_trail.specs.declared.path.Trail.TheInside.{Inside}
use Rattle.cdcl_trail.specs.Literals.{variable}
use Rattle.cdcl_trail.specs.Path.{Path}

abbrev pub path_of : Inside → Path
path_of trail = record {
  variables = length trail.places.items;
  literals = trail.literals.items;
  reasons = trail.reasons.items;
  limits = trail.limits.items;
}

-- a mark stands at just the literals that are true
pub record IsMarked (marks : List Bool) (literals : List ℕ) : Type 0 where
  pub marked : (literal : ℕ) → Contains literals literal → slice_index_or marks literal false ≡ true
  pub true_ : (literal : ℕ) → slice_index_or marks literal false ≡ true → Contains literals literal

-- each variable that has a true literal knows its place
abbrev pub KnowsPlaces : List ℕ → List ℕ → Type 0
KnowsPlaces places literals = (place : ℕ) → place < length literals → slice_index places (variable (slice_index literals place)) ≡ place

abbrev pub IsRising : List ℕ → Type 0
IsRising limits = (level next : ℕ) → level < next → next < length limits → slice_index limits level < slice_index limits next

pub record IsTrail (trail : Inside) : Type 0 where
  pub marks : IsMarked trail.marks.items trail.literals.items
  pub places : KnowsPlaces trail.places.items trail.literals.items
  pub size : length trail.marks.items ≡ 2 * length trail.places.items
  pub variables : length trail.places.items < 2 ^ 31
  pub reasons : length trail.reasons.items ≡ length trail.literals.items
  pub rising : IsRising trail.limits.items
  pub begun : All (λ limit. limit < length trail.literals.items) trail.limits.items
  -- so that nothing but `new` takes memory
  pub room : (length trail.places.items ≤ vec_capacity trail.literals) × (length trail.places.items ≤ vec_capacity trail.reasons)
      × (length trail.places.items ≤ vec_capacity trail.limits)
