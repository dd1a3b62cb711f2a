-- Names in the order of their ends, and what a text finds among them.
use Rattle.std.specs.Prelude.{◌≡◌, Bool as Truth, true, false, ℕ, List, [], ◌∷◌, drop, map, if◌then◌else◌}
use Rattle.std.specs.Borrow.{Bor}
use Rattle.std.specs.List.Sorted.{IsSortedBy, IsPartitionPoint}
use Rattle.std.specs.Ordering.{is_lt}
use Rattle.psl_tree.specs.declared.name.Name.{Name}
use Rattle.psl_layer_theory.specs.declared.found.Found.{Found}
use Rattle.psl_layer_theory.specs.declared.found.Found.TheVariants.{Nothing}
use Rattle.psl_layer_theory.specs.LookUp.{is_named, ends_named}
use Rattle.psl_names.specs.Alike.{HaveSameMembers, alike, alike_each, first_passes, said}
use Rattle.psl_names.specs.Ends.{compare_ends}

-- the names that a list refers to
abbrev pub names_of : List (Bor Name) → List Name
names_of names = map (λ name. name.now) names

-- the end of a name is before that of another
abbrev pub is_before : Name → Name → Truth
is_before first second = is_lt (compare_ends first.text second.text)

-- a list has the names of another in the order of their ends
pub record IsSorting (names sorted : List Name) : Type 0 where
  pub same : HaveSameMembers names sorted
  pub ascend : IsSortedBy is_before sorted

-- an index of names
pub record IsIndex (names : List Name) (sorted : List (Bor Name)) (counts : List ℕ) : Type 0 where
  pub sorting : IsSorting names (names_of sorted)
  pub counted : counts ≡ alike_each (names_of sorted)

-- a place has before it the names that are before a text
abbrev pub IsPlaceOf : List ℕ → List Name → ℕ → Type 0
IsPlaceOf text sorted place =
    IsPartitionPoint (λ name. is_lt (compare_ends name.text text) ≡ true) (λ name. is_lt (compare_ends name.text text) ≡ false) sorted place

-- what a text finds among names, by the first of them and the others from the first that is not alike to it
abbrev pub found_with : List ℕ → Name → List Name → Found
found_with text first others =
    if is_named text first then said first (first_passes (is_named text) others)
    else if ends_named text first then said first (first_passes (ends_named text) others)
    else Nothing

-- what a text finds among names of which those that match stand first
abbrev pub found_in : List ℕ → List Name → Found
found_in text [] = Nothing
found_in text (first ∷ more) = found_with text first (drop (alike first more) more)

-- what a text finds among names of which those that match stand first, where it has to be theirs
abbrev pub named_in : List ℕ → List Name → Found
named_in text names = if first_passes (is_named text) names then found_in text names else Nothing
