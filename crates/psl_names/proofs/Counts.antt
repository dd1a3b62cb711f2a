-- How many names behind each are alike to it.
use Rattle.std.proofs.Common.{◌≡◌, ℕ, zero, suc, ◌+◌, ◌-◌, ◌<◌, ◌≤◌, Bool as Truth, true, false, arith, refl, sym, ap, ◌∙◌, List, [], ◌∷◌, ◌++◌, length, take, drop, get_or, reverse, Bor}
use Rattle.std.proofs.lemmas.List.{length-map, length-drop, drop-drop, get_or_default, reverse-append}
use Rattle.std.specs.Prelude.{if◌then◌else◌}
use Rattle.psl_tree.specs.declared.name.Name.{Name}
use Rattle.psl_names.specs.Alike.{alike, alike_each, front_count}
use Rattle.psl_layer_theory.specs.LookUp.{is_same_range}
use Rattle.psl_names.specs.Sorting.{names_of, found_in, found_with}
use Rattle.psl_names.proofs.Refs.{from_place, names-from}

-- one more is counted at the most for each
by_same : (same : Truth) (count size : ℕ) → count ≤ size → (if same then suc count else 0) ≤ suc size
by_same true count size below = omega arith
by_same false count size below = omega arith

-- no more are alike than there are
pub alike-le : (first : Name) (names : List Name) → alike first names ≤ length names
alike-le first [] = omega arith
alike-le first (name ∷ more) = by_same (is_same_range first name) (alike first more) (length more) (alike-le first more)

-- a count for each
pub each-length : (names : List Name) → length (alike_each names) ≡ length names
each-length [] = refl
each-length (name ∷ more) = ap suc (each-length more)

-- the count at a place
each-at : (names : List Name) (place : ℕ) → get_or (alike_each names) place 0 ≡ front_count (drop place names)
each-at [] zero = refl
each-at [] (suc place) = refl
each-at (name ∷ more) zero = refl
each-at (name ∷ more) (suc place) = each-at more place

-- there is a count for each reference
pub counts-length : (refs : List (Bor Name)) (counts : List ℕ) → counts ≡ alike_each (names_of refs) → length counts ≡ length refs
counts-length refs counts counted = ap length counted ∙ each-length (names_of refs) ∙ length-map refs (λ (name : Bor Name). name.now)

-- the count at a place is how many behind the name there are alike to it
pub count-at : (refs : List (Bor Name)) (counts : List ℕ) (place : ℕ) (ref : Bor Name) → counts ≡ alike_each (names_of refs) → place < length refs → ref ≡ get_or refs place ref →
    get_or counts place 0 ≡ alike ref.now (drop (place + 1) (names_of refs))
count-at refs counts place ref counted inside is =
    ap (λ (all : List ℕ). get_or all place 0) counted ∙ each-at (names_of refs) place ∙ ap front_count (from_place refs ref place inside is)

-- and no more than there are
pub count-within : (refs : List (Bor Name)) (counts : List ℕ) (place : ℕ) → counts ≡ alike_each (names_of refs) → place < length refs → place + 1 + get_or counts place 0 ≤ length refs
count-within [] counts place counted inside = absurd (omega arith)
count-within (first ∷ more) counts place counted inside =
    let refs : List (Bor Name) = first ∷ more in
    let ref : Bor Name = get_or refs place first in
    let size : length (names_of refs) ≡ length refs = length-map refs (λ (name : Bor Name). name.now) in
    let count = count-at refs counts place ref counted inside (get_or_default refs place first ref inside) in
    omega (arith, count, alike-le ref.now (drop (place + 1) (names_of refs)), length-drop (place + 1) (names_of refs))

-- what a text finds from a place on
pub found-from : (refs : List (Bor Name)) (text : List ℕ) (place count : ℕ) (ref : Bor Name) → place < length refs → ref ≡ get_or refs place ref →
    count ≡ alike ref.now (drop (place + 1) (names_of refs)) →
    found_with text ref.now (names_of (take (length refs - (place + 1 + count)) (drop (place + 1 + count) refs))) ≡ found_in text (drop place (names_of refs))
found-from refs text place count ref inside is counted =
    let behind : List Name = drop (place + 1) (names_of refs) in
    ap (found_with text ref.now) (names-from refs (place + 1 + count) ∙ sym (drop-drop count (place + 1) (names_of refs)) ∙ ap (λ (n : ℕ). drop n behind) counted)
    ∙ ap (found_in text) (sym (from_place refs ref place inside is))

-- one count more, for the name before those that are counted
pub record CountsMore (refs : List (Bor Name)) (counts : List ℕ) (count distance : ℕ) : Type 0 where
  pub counted : reverse counts ≡ alike_each (drop (length refs - distance) (names_of refs))
  pub front : count ≡ front_count (drop (length refs - distance) (names_of refs))
  pub few : count ≤ distance

pub counts-more : (refs : List (Bor Name)) (counts : List ℕ) (count more distance : ℕ) (ref : Bor Name) → CountsMore refs counts count distance →
    distance < length refs → ref ≡ get_or refs (length refs - 1 - distance) ref →
    more ≡ alike ref.now (names_of (take (length refs - (length refs - 1 - distance + 1)) (drop (length refs - 1 - distance + 1) refs))) →
    CountsMore refs (counts ++ more ∷ []) more (distance + 1)
counts-more refs counts count more distance ref known inside is counted =
    let place : ℕ = length refs - 1 - distance in
    let behind : List Name = drop (length refs - distance) (names_of refs) in
    let next : place + 1 ≡ length refs - distance = omega arith in
    let here : length refs - (distance + 1) ≡ place = omega arith in
    let count_is : more ≡ alike ref.now behind = counted ∙ ap (alike ref.now) (names-from refs (place + 1) ∙ ap (λ (n : ℕ). drop n (names_of refs)) next) in
    let rest : drop (length refs - (distance + 1)) (names_of refs) ≡ ref.now ∷ behind =
    ap (λ (n : ℕ). drop n (names_of refs)) here ∙ from_place refs ref place (omega arith) is ∙ ap (λ (n : ℕ). ref.now ∷ drop n (names_of refs)) next in
    let size : length (names_of refs) ≡ length refs = length-map refs (λ (name : Bor Name). name.now) in
    record {
      counted = reverse-append counts (more ∷ []) ∙ ap (λ (all : List ℕ). more ∷ all) known.counted ∙ ap (λ (n : ℕ). n ∷ alike_each behind) count_is ∙ ap alike_each (sym rest);
      front = count_is ∙ ap front_count (sym rest);
      few = omega (arith, count_is, alike-le ref.now behind, length-drop (length refs - distance) (names_of refs));
    }
