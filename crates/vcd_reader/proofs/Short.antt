-- The table of short texts, when a text comes behind the others.
use Rattle.std.proofs.Common.{◌≡◌, ◌≢◌, ℕ, ◌+◌, ◌-◌, ◌*◌, ◌<◌, true, false, List, [], ◌∷◌, ◌++◌, length, get_or, set, Option, None, Some, refl, sym, ap, subst, ◌∙◌, ⊎_elim, eqb, arith, get_or-set_same, get_or-set_other}
use Rattle.std.proofs.lemmas.Bool.{cases_Bool, cond-false, ne_eqb}
use Rattle.std.proofs.lemmas.List.{length-set}
use Rattle.std.proofs.lemmas.Slice.Eq.{bytes_eq-Decides}
use Rattle.std.specs.Map.{update}
use Rattle.std.specs.Str.{bytes_eq}
use Rattle.vcd_reader.proofs.Places.{place_of-push}
use Rattle.vcd_reader.specs.Labels.{place_of, is_new}
use Rattle.vcd_reader.specs.Short.{short_place, number_of, noted, AreBytes, IsShortTable}

place_low : (text : List ℕ) (at : ℕ) → AreBytes text → short_place text ≡ Some at → at < 65792
place_low [] at bytes here = absurd (let wrong : None ≡ Some at = here in cc)
place_low (a ∷ []) at bytes here = let same : a ≡ at = cc in let low : a < 256 = bytes 0 in omega arith
place_low (a ∷ b ∷ []) at bytes here = let same : 256 + a * 256 + b ≡ at = cc in let low : a < 256 = bytes 0 in let next : b < 256 = bytes 1 in omega arith
place_low (a ∷ b ∷ c ∷ rest) at bytes here = absurd (let wrong : None ≡ Some at = here in cc)

-- short texts at one place are one text
one_place : (text other : List ℕ) (at : ℕ) → AreBytes text → AreBytes other → short_place text ≡ Some at → short_place other ≡ Some at → text ≡ other
one_place [] other at bytes others here there = absurd (let wrong : None ≡ Some at = here in cc)
one_place (a ∷ b ∷ c ∷ rest) other at bytes others here there = absurd (let wrong : None ≡ Some at = here in cc)
one_place (a ∷ []) [] at bytes others here there = absurd (let wrong : None ≡ Some at = there in cc)
one_place (a ∷ b ∷ []) [] at bytes others here there = absurd (let wrong : None ≡ Some at = there in cc)
one_place (a ∷ []) (x ∷ y ∷ z ∷ rest) at bytes others here there = absurd (let wrong : None ≡ Some at = there in cc)
one_place (a ∷ b ∷ []) (x ∷ y ∷ z ∷ rest) at bytes others here there = absurd (let wrong : None ≡ Some at = there in cc)
one_place (a ∷ []) (x ∷ []) at bytes others here there = let one : a ≡ at = cc in let two : x ≡ at = cc in cc
one_place (a ∷ []) (x ∷ y ∷ []) at bytes others here there =
    let one : a ≡ at = cc in let two : 256 + x * 256 + y ≡ at = cc in let low : a < 256 = bytes 0 in absurd (omega arith)
one_place (a ∷ b ∷ []) (x ∷ []) at bytes others here there =
    let one : 256 + a * 256 + b ≡ at = cc in let two : x ≡ at = cc in let low : x < 256 = others 0 in absurd (omega arith)
one_place (a ∷ b ∷ []) (x ∷ y ∷ []) at bytes others here there =
    let one : 256 + a * 256 + b ≡ at = cc in let two : 256 + x * 256 + y ≡ at = cc in
    let low : a < 256 = bytes 0 in let next : b < 256 = bytes 1 in let other_low : x < 256 = others 0 in let other_next : y < 256 = others 1 in
    let first : a ≡ x = omega arith in let second : b ≡ y = omega arith in cc

-- the table of no texts
pub short-none : (short : List ℕ) → length short ≡ 65792 → ((k : ℕ) → get_or short k 0 ≡ 0) → IsShortTable short []
short-none short sized zeros = record { sized = sized; places = λ text at bytes here. rw (zeros at) refl }

some_number : (n : ℕ) → number_of (n + 1) ≡ Some n
some_number n = cond-false (eqb (n + 1) 0) None (Some (n + 1 - 1)) (ne_eqb (n + 1) 0 (λ same. omega (arith, same))) ∙ ap Some (omega arith)

by_size : (short : List ℕ) (place : Option ℕ) (entry : ℕ) → length (noted short place entry) ≡ length short
by_size short None entry = refl
by_size short (Some at) entry = length-set short at entry

by_place : (short : List ℕ) (texts : List (List ℕ)) (text query : List ℕ) (at n : ℕ) (place : Option ℕ) → IsShortTable short texts → n ≡ length texts → is_new texts text ≡ true → AreBytes text → AreBytes query → short_place text ≡ place → short_place query ≡ Some at →
    number_of (get_or (noted short place (n + 1)) at 0) ≡ update bytes_eq (place_of texts) text (Some n) query
by_place short texts text query at n None table count new bytes queries here there =
    ⊎_elim
    (λ same. absurd (let is : text ≡ query = (bytes_eq-Decides text query).0 same in let wrong : None ≡ Some at = sym here ∙ ap short_place is ∙ there in cc))
    (λ differ. rw differ (table.places query at queries there))
    (cases_Bool (bytes_eq text query))
by_place short texts text query at n (Some place) table count new bytes queries here there =
    ⊎_elim
    (λ same. let is : text ≡ query = (bytes_eq-Decides text query).0 same in
    let equal : Some place ≡ Some at = sym here ∙ ap short_place is ∙ there in
    let spot : place ≡ at = cc in
    let low : at < length short = omega (arith, place_low query at queries there, table.sized) in
    let entry : get_or (set short place (n + 1)) at 0 ≡ n + 1 = subst (λ (p : ℕ). get_or (set short p (n + 1)) at 0 ≡ n + 1) (sym spot) (get_or-set_same short at (n + 1) 0 low) in
    rw (same, entry) (some_number n))
    (λ differ. let apart : at ≢ place = λ equal. absurd (let is : text ≡ query = one_place text query place bytes queries here (there ∙ ap Some equal) in let wrong : true ≡ false = sym ((bytes_eq-Decides text query).1 is) ∙ differ in cc) in
    let entry : get_or (set short place (n + 1)) at 0 ≡ get_or short at 0 = get_or-set_other short place at (n + 1) 0 apart in
    rw (differ, entry) (table.places query at queries there))
    (cases_Bool (bytes_eq text query))

-- the table with a text more
pub short-push : (short : List ℕ) (texts : List (List ℕ)) (text : List ℕ) (n : ℕ) → IsShortTable short texts → n ≡ length texts → is_new texts text ≡ true → AreBytes text → IsShortTable (noted short (short_place text) (n + 1)) (texts ++ text ∷ [])
short-push short texts text n table count new bytes = record {
  sized = by_size short (short_place text) (n + 1) ∙ table.sized;
  places = λ query at queries there. by_place short texts text query at n (short_place text) table count new bytes queries refl there ∙ place_of-push texts text query n count new;
}
