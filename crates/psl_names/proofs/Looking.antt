-- What a text finds among names in the order of their ends.
use Rattle.std.proofs.Common.{◌≡◌, ℕ, ◌+◌, ◌<◌, ◌≤◌, Bool as Truth, true, false, arith, refl, sym, ap, ◌∙◌, List, [], ◌∷◌, ◌++◌, length, take, drop, get_or, length-drop, ⊎_elim}
use Rattle.std.proofs.lemmas.Bool.{true≢false, false_from_ne_true, cases_Bool}
use Rattle.std.proofs.lemmas.Cmp.{nat_list_cmp_total}
use Rattle.std.proofs.lemmas.List.{take-append-drop, get_or-drop, get_or-take, length-take}
use Rattle.std.proofs.lemmas.List.Elements.{filter-append}
use Rattle.std.proofs.lemmas.List.Folds.{list_any_none}
use Rattle.std.proofs.lemmas.List.Sorted.{sorted_far, ranks_by}
use Rattle.std.specs.List.{list_all}
use Rattle.std.specs.List.Sorted.{IsSortedBy, IsPartitionedBy}
use Rattle.std.specs.Prelude.{filter, if◌then◌else◌}
use Rattle.psl_tree.specs.declared.name.Name.{Name}
use Rattle.psl_layer_theory.specs.declared.found.Found.{Found}
use Rattle.psl_layer_theory.specs.declared.found.Found.TheVariants.{Nothing, One, Several}
use Rattle.psl_layer_theory.specs.LookUp.{found_among, first_filled, is_named, ends_named, is_same_range, look_up, named}
use Rattle.psl_names.specs.Alike.{alike, chosen, said, first_passes}
use Rattle.psl_names.specs.Ends.{backward}
use Rattle.psl_names.specs.Sorting.{is_before, IsSorting, IsPlaceOf, found_in, named_in}
use Rattle.psl_names.proofs.Backward.{named-back, ends-back, named-below, ends-below}
use Rattle.psl_names.proofs.Fronts.{stand-first, filter-none, found-first, found-none}
use Rattle.psl_names.proofs.Members.{found-filter}

-- in sorted names no later one is before an earlier one
far : (sorted : List Name) → IsSortedBy is_before sorted → (i j : ℕ) (d : Name) → i ≤ j → j < length sorted → is_before (get_or sorted j d) (get_or sorted i d) ≡ false
far sorted up = sorted_far is_before (ranks_by nat_list_cmp_total (λ (name : Name). backward name.text)) sorted up

-- nothing that fails a test is kept from what is before a place
kept-from : (test : Name → Truth) (sorted : List Name) (place : ℕ) → ((k : ℕ) (d : Name) → k < place → k < length sorted → test (get_or sorted k d) ≡ false) →
    filter test sorted ≡ filter test (drop place sorted)
kept-from test sorted place out =
    let before : filter test (take place sorted) ≡ [] =
    filter-none test (take place sorted) (list_any_none test (take place sorted) (λ (k : ℕ) (d : Name) (within : k < length (take place sorted)).
    let first : k < place = omega (arith, length-take place sorted) in
    let inside : k < length sorted = omega (arith, length-take place sorted) in
    ap test (get_or-take place sorted k d first) ∙ out k d first inside)) in
    ap (filter test) (sym (take-append-drop place sorted))
    ∙ filter-append test (take place sorted) (drop place sorted)
    ∙ ap (λ (kept : List Name). kept ++ filter test (drop place sorted)) before

-- from a text's place on, the names that have it stand first
named-first : (text : List ℕ) (sorted : List Name) (place : ℕ) → IsSortedBy is_before sorted → IsPlaceOf text sorted place → IsPartitionedBy (is_named text) (drop place sorted)
named-first text sorted place up at i j d order within named =
    let inside : place + j < length sorted = omega (arith, length-drop place sorted) in
    ap (is_named text) (get_or-drop place sorted i d)
    ∙ named-back text (get_or sorted (place + i) d).text (get_or sorted (place + j) d).text
    (at.1 (place + i) d (omega arith) (omega arith))
    (far sorted up (place + i) (place + j) d (omega arith) inside)
    (sym (ap (is_named text) (get_or-drop place sorted j d)) ∙ named)

-- and where none has it, those that end with a dot and it
ends-first : (text : List ℕ) (sorted : List Name) (place : ℕ) → IsSortedBy is_before sorted → IsPlaceOf text sorted place →
    ((k : ℕ) (d : Name) → k < length (drop place sorted) → is_named text (get_or (drop place sorted) k d) ≡ false) → IsPartitionedBy (ends_named text) (drop place sorted)
ends-first text sorted place up at none i j d order within ends =
    let inside : place + j < length sorted = omega (arith, length-drop place sorted) in
    ap (ends_named text) (get_or-drop place sorted i d)
    ∙ ends-back text (get_or sorted (place + i) d).text (get_or sorted (place + j) d).text
    (at.1 (place + i) d (omega arith) (omega arith))
    (far sorted up (place + i) (place + j) d (omega arith) inside)
    (sym (ap (is_named text) (get_or-drop place sorted i d)) ∙ none i d (omega arith))
    (sym (ap (ends_named text) (get_or-drop place sorted j d)) ∙ ends)

-- what matching names say, by what each of the two lists of them says
pub found-filled : (first second : List Name) → found_among (first_filled first second) ≡ chosen (found_among first) (found_among second)
found-filled [] second = refl
found-filled (name ∷ more) second = by_all (list_all (is_same_range name) more) name
  where
    by_all : (all : Truth) (name : Name) → (if all then One name.signal name.left name.right else Several) ≡ chosen (if all then One name.signal name.left name.right else Several) (found_among second)
    by_all true name = refl
    by_all false name = refl

-- what a name says is chosen
chosen-said : (first : Name) (other : Truth) (second : Found) → chosen (said first other) second ≡ said first other
chosen-said first true second = refl
chosen-said first false second = refl

-- where no name has the text
no-name : (text : List ℕ) (first : Name) (more : List Name) → IsPartitionedBy (ends_named text) (first ∷ more) →
    found_among (filter (ends_named text) (first ∷ more)) ≡ (if ends_named text first then said first (first_passes (ends_named text) (drop (alike first more) more)) else Nothing)
no-name text first more ends =
    let others : List Name = drop (alike first more) more in
    let stand = stand-first (ends_named text) (first ∷ more) ends in
    ⊎_elim
    (λ (here : ends_named text first ≡ true).
    found-first (ends_named text) first more stand.1 here ∙ sym (ap (λ (b : Truth). if b then said first (first_passes (ends_named text) others) else Nothing) here))
    (λ (out : ends_named text first ≡ false).
    found-none (ends_named text) first more stand out ∙ sym (ap (λ (b : Truth). if b then said first (first_passes (ends_named text) others) else Nothing) out))
    (cases_Bool (ends_named text first))

-- what a text finds among names of which those that match stand first
in-rest : (text : List ℕ) (names : List Name) → IsPartitionedBy (is_named text) names →
    (((k : ℕ) (d : Name) → k < length names → is_named text (get_or names k d) ≡ false) → IsPartitionedBy (ends_named text) names) →
    chosen (found_among (filter (is_named text) names)) (found_among (filter (ends_named text) names)) ≡ found_in text names
in-rest text [] named ends = refl
in-rest text (first ∷ more) named ends =
    let others : List Name = drop (alike first more) more in
    let behind : Found = found_among (filter (ends_named text) (first ∷ more)) in
    let stand = stand-first (is_named text) (first ∷ more) named in
    let rest : Found = if ends_named text first then said first (first_passes (ends_named text) others) else Nothing in
    ⊎_elim
    (λ (here : is_named text first ≡ true).
    ap (λ (found : Found). chosen found behind) (found-first (is_named text) first more stand.1 here)
    ∙ chosen-said first (first_passes (is_named text) others) behind
    ∙ sym (ap (λ (b : Truth). if b then said first (first_passes (is_named text) others) else rest) here))
    (λ (out : is_named text first ≡ false).
    let none : (k : ℕ) (d : Name) → k < length (first ∷ more) → is_named text (get_or (first ∷ more) k d) ≡ false =
    λ k d within. false_from_ne_true (is_named text (get_or (first ∷ more) k d)) (λ (passes : is_named text (get_or (first ∷ more) k d) ≡ true).
    true≢false (sym (named 0 k d (omega arith) within passes) ∙ out)) in
    ap (λ (found : Found). chosen found behind) (found-none (is_named text) first more stand out)
    ∙ no-name text first more (ends none)
    ∙ sym (ap (λ (b : Truth). if b then said first (first_passes (is_named text) others) else rest) out))
    (cases_Bool (is_named text first))

-- what a text finds where it has to be that of a name
named-rest : (text : List ℕ) (names : List Name) → IsPartitionedBy (is_named text) names → found_among (filter (is_named text) names) ≡ named_in text names
named-rest text [] parted = refl
named-rest text (first ∷ more) parted =
    let others : List Name = drop (alike first more) more in
    let stand = stand-first (is_named text) (first ∷ more) parted in
    let behind : Found = if ends_named text first then said first (first_passes (ends_named text) others) else Nothing in
    ⊎_elim
    (λ (here : is_named text first ≡ true).
    found-first (is_named text) first more stand.1 here
    ∙ sym (ap (λ (b : Truth). if b then (if b then said first (first_passes (is_named text) others) else behind) else Nothing) here))
    (λ (out : is_named text first ≡ false).
    found-none (is_named text) first more stand out
    ∙ sym (ap (λ (b : Truth). if b then found_in text (first ∷ more) else Nothing) out))
    (cases_Bool (is_named text first))

pub named-up : (names sorted : List Name) (text : List ℕ) (place : ℕ) → IsSorting names sorted → IsPlaceOf text sorted place → named names text ≡ named_in text (drop place sorted)
named-up names sorted text place sorting at =
    found-filter names sorted (is_named text) sorting.same
    ∙ ap found_among (kept-from (is_named text) sorted place (λ k d first inside. named-below text (get_or sorted k d).text (at.0 k d (omega arith) first)))
    ∙ named-rest text (drop place sorted) (named-first text sorted place sorting.ascend at)

-- what a text finds in sorted names is what it finds in the names
pub looked-up : (names sorted : List Name) (text : List ℕ) (place : ℕ) → IsSorting names sorted → IsPlaceOf text sorted place → look_up names text ≡ found_in text (drop place sorted)
looked-up names sorted text place sorting at =
    let rest : List Name = drop place sorted in
    let named : found_among (filter (is_named text) names) ≡ found_among (filter (is_named text) rest) =
    found-filter names sorted (is_named text) sorting.same
    ∙ ap found_among (kept-from (is_named text) sorted place (λ k d first inside. named-below text (get_or sorted k d).text (at.0 k d (omega arith) first))) in
    let ends : found_among (filter (ends_named text) names) ≡ found_among (filter (ends_named text) rest) =
    found-filter names sorted (ends_named text) sorting.same
    ∙ ap found_among (kept-from (ends_named text) sorted place (λ k d first inside. ends-below text (get_or sorted k d).text (at.0 k d (omega arith) first))) in
    found-filled (filter (is_named text) names) (filter (ends_named text) names)
    ∙ ap (λ (found : Found). chosen found (found_among (filter (ends_named text) names))) named
    ∙ ap (chosen (found_among (filter (is_named text) rest))) ends
    ∙ in-rest text rest (named-first text sorted place sorting.ascend at) (ends-first text sorted place sorting.ascend at)
