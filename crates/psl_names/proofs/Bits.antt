-- The bits of a bus, as far as they were read.
use Rattle.std.proofs.Common.{◌≡◌, ℕ, zero, suc, ◌+◌, ◌-◌, ◌<◌, Bool, true, false, not, ◌&&◌, ◌||◌, List, [], ◌∷◌, ◌++◌, map, refl, sym, ap, ◌∙◌, arith}
use Rattle.std.proofs.lemmas.List.{map-append}
use Rattle.std.proofs.lemmas.List.FromFn.{map-range_with_len_more}
use Rattle.std.specs.List.{list_any, range_with_len}
use Rattle.std.specs.Prelude.{if◌then◌else◌}
use Rattle.psl_sugar.specs.Vectors.{only_bit}
use Rattle.psl_sugar.specs.declared.vector.Bit.{Bit}
use Rattle.psl_tree.specs.declared.name.Name.{Name}
use Rattle.psl_layer_theory.specs.Buses.{bit_behind, bits_behind, is_found, is_hole, is_several, joined, signal_in}
use Rattle.psl_layer_theory.specs.LookUp.{named}
use Rattle.psl_layer_theory.specs.Texts.{indexed_text}
use Rattle.psl_layer_theory.specs.declared.found.Found.{Found}
use Rattle.psl_layer_theory.specs.declared.found.Reference.TheVariants as references

or-last : (a b c : Bool) → (a || (b || c)) ≡ ((a || b) || c)
or-last true b c = refl
or-last false b c = refl

or-none : (a b : Bool) → (a || (b || false)) ≡ (a || b)
or-none true b = refl
or-none false true = refl
or-none false false = refl

only-bits : (bits : List Found) → map only_bit (map signal_in bits) ≡ map (λ found. only_bit (signal_in found)) bits
only-bits [] = refl
only-bits (found ∷ more) = ap (λ (rest : List Bit). only_bit (signal_in found) ∷ rest) (only-bits more)

any-last : (test : Found → Bool) (xs : List Found) (last : Found) → list_any test (xs ++ last ∷ []) ≡ (list_any test xs || test last)
any-last test [] last = by (test last) where
  by : (b : Bool) → (b || false) ≡ (false || b)
  by true = refl
  by false = refl
any-last test (x ∷ xs) last = ap (λ (b : Bool). test x || b) (any-last test xs last) ∙ or-last (test x) (list_any test xs) (test last)

module _ (bit : ℕ → Found) where
  abbrev pub read_bits : ℕ → ℕ → List Found
  read_bits low more = map bit (range_with_len low more)

  -- what was read of the first bits
  pub record IsRead (low more : ℕ) (is_clear : Bool) (signals : List ℕ) : Type 0 where
    pub holes : list_any is_hole (read_bits low more) ≡ false
    pub clear : is_clear ≡ not (list_any is_several (read_bits low more))
    pub are : signals ≡ map signal_in (read_bits low more)

  -- nothing was read
  pub read_none : (low : ℕ) → IsRead low 0 true []
  read_none low = record { holes = refl; clear = refl; are = refl }

  one-more : (low more : ℕ) → read_bits low (more + 1) ≡ read_bits low more ++ bit (low + more) ∷ []
  one-more low more = map-range_with_len_more bit low more (low + more) refl

  hole-more : (a b : Bool) → a ≡ false → b ≡ false → (a || b) ≡ false
  hole-more a b h k = cc

  not-or : (a b : Bool) → (not a && not b) ≡ not (a || b)
  not-or true b = refl
  not-or false b = refl

  pub read_more : (low more : ℕ) (is_clear : Bool) (signals : List ℕ) → IsRead low more is_clear signals → is_hole (bit (low + more)) ≡ false →
      IsRead low (more + 1) (is_clear && not (is_several (bit (low + more)))) (signals ++ signal_in (bit (low + more)) ∷ [])
  read_more low more is_clear signals is none =
      let found : Found = bit (low + more) in
      let before : List Found = read_bits low more in
      record {
        holes = ap (list_any is_hole) (one-more low more) ∙ any-last is_hole before found ∙ hole-more (list_any is_hole before) (is_hole found) is.holes none;
        clear = ap (λ (b : Bool). b && not (is_several found)) is.clear ∙ not-or (list_any is_several before) (is_several found)
            ∙ sym (ap not (ap (list_any is_several) (one-more low more) ∙ any-last is_several before found));
        are = ap (λ (all : List ℕ). all ++ signal_in found ∷ []) is.are
            ∙ sym (ap (map signal_in) (one-more low more) ∙ map-append signal_in before (found ∷ []));
      }

  any-at : (test : Found → Bool) (low width more : ℕ) → more < width → test (bit (low + more)) ≡ true → list_any test (read_bits low width) ≡ true
  any-at test low zero more below is = absurd (omega arith)
  any-at test low (suc width) zero below is =
      let here : low + 0 ≡ low = omega arith in
      ap (λ (b : Bool). b || list_any test (read_bits (low + 1) width)) (ap (λ (n : ℕ). test (bit n)) (sym here) ∙ is)
  any-at test low (suc width) (suc more) below is =
      let next : low + 1 + more ≡ low + suc more = omega arith in
      later (test (bit low)) (list_any test (read_bits (low + 1) width)) (any-at test (low + 1) width more (omega arith) (ap (λ (n : ℕ). test (bit n)) next ∙ is))
    where
      later : (a b : Bool) → b ≡ true → (a || b) ≡ true
      later true b e = refl
      later false b e = e

  -- where there is a hole
  pub read_hole : (low width more : ℕ) → more < width → is_hole (bit (low + more)) ≡ true → joined (read_bits low width) ≡ references.Nothing
  read_hole low width more below is =
      let bits : List Found = read_bits low width in
      ap (λ (b : Bool). if b then references.Nothing else if list_any is_several bits then references.Several else references.Bits (map (λ found. only_bit (signal_in found)) bits))
      (any-at is_hole low width more below is)

  by-clear : (several is_clear : Bool) (bits : List Found) (signals : List ℕ) → is_clear ≡ not several → signals ≡ map signal_in bits →
      (if several then references.Several else references.Bits (map (λ found. only_bit (signal_in found)) bits)) ≡ (if is_clear then references.Bits (map only_bit signals) else references.Several)
  by-clear true is_clear bits signals clear are = ap (λ (b : Bool). if b then references.Bits (map only_bit signals) else references.Several) (sym clear)
  by-clear false is_clear bits signals clear are =
      ap references.Bits (sym (only-bits bits) ∙ ap (map only_bit) (sym are))
      ∙ ap (λ (b : Bool). if b then references.Bits (map only_bit signals) else references.Several) (sym clear)

  -- where there is none
  pub read_all : (low width : ℕ) (is_clear : Bool) (signals : List ℕ) → IsRead low width is_clear signals →
      joined (read_bits low width) ≡ (if is_clear then references.Bits (map only_bit signals) else references.Several)
  read_all low width is_clear signals is =
      let bits : List Found = read_bits low width in
      ap (λ (b : Bool). if b then references.Nothing else if list_any is_several bits then references.Several else references.Bits (map (λ found. only_bit (signal_in found)) bits)) is.holes
      ∙ by-clear (list_any is_several bits) is_clear bits signals is.clear is.are

-- the bits of a bus, by its lowest index and its width as they are kept
pub bits_behind_is : (names : List Name) (text : List ℕ) (high low kept : ℕ) (is_whole : Bool) → kept ≡ low → is_whole ≡ is_found (named names (indexed_text text kept)) →
    bits_behind names text high low ≡ read_bits (bit_behind names text is_whole) kept (high - low + 1)
bits_behind_is names text high low kept is_whole same whole =
    ap (λ (n : ℕ). read_bits (bit_behind names text (is_found (named names (indexed_text text n)))) n (high - low + 1)) (sym same)
    ∙ ap (λ (b : Bool). read_bits (bit_behind names text b) kept (high - low + 1)) (sym whole)
