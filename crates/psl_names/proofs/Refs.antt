-- References to names, and the names.
use Rattle.std.proofs.Common.{◌≡◌, ℕ, suc, ◌+◌, ◌-◌, ◌<◌, ◌≤◌, Bool as Truth, true, false, arith, sym, ap, ◌∙◌, List, [], ◌∷◌, length, take, drop, get_or, Bor}
use Rattle.std.proofs.lemmas.Bool.{true≢false, true_from_ne_false}
use Rattle.std.proofs.lemmas.Cmp.{nat_list_cmp_total}
use Rattle.std.proofs.lemmas.List.{get_or-map, length-map, length-drop, take_all, drop-map}
use Rattle.std.proofs.lemmas.List.Sorted.{sorted_far, ranks_by, list_any-IsPermutation, IsPermutation-map}
use Rattle.std.proofs.Math.Seq.{drop-cons}
use Rattle.std.specs.Cmp.{IsStrictWeakOrder}
use Rattle.std.specs.List.Sorted.{IsSortedBy, IsPartitionedBy, IsPartitionPoint, IsPermutation}
use Rattle.std.specs.Ordering.{is_lt}
use Rattle.psl_tree.specs.declared.name.Name.{Name}
use Rattle.psl_names.specs.Ends.{backward, compare_ends}
use Rattle.psl_names.specs.Sorting.{names_of, is_before, IsSorting, IsPlaceOf}

-- the order of names by their ends
pub order : IsStrictWeakOrder is_before
order = ranks_by nat_list_cmp_total (λ (name : Name). backward name.text)

-- the same of references
pub refs-order : IsStrictWeakOrder (λ (x y : Bor Name). is_before x.now y.now)
refs-order = ranks_by nat_list_cmp_total (λ (name : Bor Name). backward name.now.text)

-- names ascend as the references to them
ascend : (refs : List (Bor Name)) → IsSortedBy (λ x y. is_before x.now y.now) refs → IsSortedBy is_before (names_of refs)
ascend [] up k d low within = absurd (omega arith)
ascend (ref ∷ more) up k d low within =
    let refs : List (Bor Name) = ref ∷ more in
    let size : length (names_of refs) ≡ length refs = length-map refs (λ (name : Bor Name). name.now) in
    let inside : k + 1 < length refs = omega arith in
    ap (λ (name : Name). is_before name (get_or (names_of refs) k d)) (get_or-map (λ (name : Bor Name). name.now) refs (k + 1) ref d inside)
    ∙ ap (is_before (get_or refs (k + 1) ref).now) (get_or-map (λ (name : Bor Name). name.now) refs k ref d (omega arith))
    ∙ up k ref low inside

-- sorted references
pub sorting : (old new : List (Bor Name)) → IsPermutation old new → IsSortedBy (λ x y. is_before x.now y.now) new → IsSorting (names_of old) (names_of new)
sorting old new moved up = record {
  same = λ (test : Name → Truth). list_any-IsPermutation test (names_of old) (names_of new) (IsPermutation-map (λ (name : Bor Name). name.now) old new moved);
  ascend = ascend new up;
}

-- among sorted names those that are before a text stand first
pub parted : (refs : List (Bor Name)) (text : List ℕ) → IsSortedBy is_before (names_of refs) → IsPartitionedBy (λ name. is_lt (compare_ends name.now.text text)) refs
parted refs text up i j d order_of within before =
    let size : length (names_of refs) ≡ length refs = length-map refs (λ (name : Bor Name). name.now) in
    let first : Name = get_or (names_of refs) i d.now in
    let second : Name = get_or (names_of refs) j d.now in
    let texts = ranks_by nat_list_cmp_total backward in
    let first_is : first ≡ (get_or refs i d).now = get_or-map (λ (name : Bor Name). name.now) refs i d d.now (omega arith) in
    let second_is : second ≡ (get_or refs j d).now = get_or-map (λ (name : Bor Name). name.now) refs j d d.now within in
    let first_before : is_lt (compare_ends first.text text) ≡ true =
    true_from_ne_false (is_lt (compare_ends first.text text)) (λ (behind : is_lt (compare_ends first.text text) ≡ false).
    true≢false (sym (ap (λ (name : Name). is_lt (compare_ends name.text text)) second_is ∙ before)
    ∙ texts.chain second.text first.text text (sorted_far is_before order (names_of refs) up i j d.now order_of (omega arith)) behind)) in
    sym (ap (λ (name : Name). is_lt (compare_ends name.text text)) first_is) ∙ first_before

-- a place among references is one among the names
pub place-of : (refs : List (Bor Name)) (text : List ℕ) (place : ℕ) → place ≤ length refs →
    IsPartitionPoint (λ name. is_lt (compare_ends name.now.text text) ≡ true) (λ name. is_lt (compare_ends name.now.text text) ≡ false) refs place →
    IsPlaceOf text (names_of refs) place
place-of [] text place within at = ((λ k d low high. absurd (omega arith)), (λ k d low high. absurd (omega arith)))
place-of (ref ∷ more) text place within at =
    let refs : List (Bor Name) = ref ∷ more in
    let size : length (names_of refs) ≡ length refs = length-map refs (λ (name : Bor Name). name.now) in (
      (λ (k : ℕ) (d : Name) (low : 0 ≤ k) (high : k < place).
          ap (λ (name : Name). is_lt (compare_ends name.text text)) (get_or-map (λ (name : Bor Name). name.now) refs k ref d (omega arith)) ∙ at.0 k ref low high),
      (λ (k : ℕ) (d : Name) (low : place ≤ k) (high : k < length (names_of refs)).
          ap (λ (name : Name). is_lt (compare_ends name.text text)) (get_or-map (λ (name : Bor Name). name.now) refs k ref d (omega arith)) ∙ at.1 k ref low (omega arith)),
    )

-- a name and those behind it
pub from_place : (refs : List (Bor Name)) (ref : Bor Name) (place : ℕ) → place < length refs → ref ≡ get_or refs place ref →
    drop place (names_of refs) ≡ ref.now ∷ drop (place + 1) (names_of refs)
from_place refs ref place within is =
    let size : length (names_of refs) ≡ length refs = length-map refs (λ (name : Bor Name). name.now) in
    let next : suc place ≡ place + 1 = omega arith in
    drop-cons (names_of refs) place ref.now (omega arith)
    ∙ ap (λ (name : Name). name ∷ drop (suc place) (names_of refs)) (get_or-map (λ (name : Bor Name). name.now) refs place ref ref.now within ∙ ap (λ (name : Bor Name). name.now) (sym is))
    ∙ ap (λ (n : ℕ). ref.now ∷ drop n (names_of refs)) next

-- the names from a place on
pub names-from : (refs : List (Bor Name)) (place : ℕ) → names_of (take (length refs - place) (drop place refs)) ≡ drop place (names_of refs)
names-from refs place =
    ap names_of (take_all (length refs - place) (drop place refs) (omega (arith, length-drop place refs))) ∙ sym (drop-map (λ (name : Bor Name). name.now) place refs)
