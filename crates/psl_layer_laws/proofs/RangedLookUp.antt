-- The bits that a path stands for are in range of the names.
use Rattle.std.proofs.Common.{◌≡◌, refl, sym, ℕ, zero, suc, ◌+◌, ◌-◌, ◌<◌, ◌≤◌, Bool, true, false, ◌&&◌, ◌||◌, ◌⊎◌, inl, inr, nat_le, List, [], ◌∷◌, map, length, get_or, Option, None, Some, arith}
use Rattle.std.specs.Prelude.{All, Any, if◌then◌else◌}
use Rattle.std.specs.List.{filter, list_all, list_any, range_with_len}
use Rattle.std.proofs.lemmas.Bool.{leb-true}
use Rattle.std.proofs.lemmas.List.{get_or_default}
use Rattle.std.proofs.lemmas.List.Elements.{All-cons, All-filter, All-head, All-nil}
use Rattle.psl_lexer.specs.declared.token.Token.{Token}
use Rattle.psl_layer_theory.specs.Buses.{bit_behind, bits_behind, bus, bus_names, bus_over, is_found, is_hole, is_several, signal_in}
use Rattle.psl_layer_theory.specs.LookUp.{is_named, ends_named, first_filled, matches, is_same_range, found_among, look_up, named}
use Rattle.psl_layer_theory.specs.References.{is_index, distance, whole_of, bit_of, with_index, without_index, refers_to, index_number, reference}
use Rattle.psl_layer_theory.specs.Texts.{path_text, indexed_text}
use Rattle.psl_layer_theory.specs.declared.found.Found.{Found}
use Rattle.psl_layer_theory.specs.declared.found.Found.TheVariants as finds
use Rattle.psl_layer_theory.specs.declared.found.Reference.{Reference}
use Rattle.psl_layer_theory.specs.declared.found.Reference.TheVariants as references
use Rattle.psl_sugar.specs.Vectors.{bit_of_signal, only_bit, side_by_side}
use Rattle.psl_sugar.specs.declared.vector.Bit.{Bit}
use Rattle.psl_tree.specs.Names.{indices, AreAlike}
use Rattle.psl_tree.specs.declared.name.Name.{Name}

module _ (names : List Name) where
  -- some name has the signal, and each name that has it has as many indices as the range
  pub record IsRange (signal left right : ℕ) : Type 0 where
    pub named : Any (λ name. name.signal ≡ signal) names
    pub alike : All (λ name. name.signal ≡ signal → distance left right + 1 ≡ indices name) names

  abbrev FoundHas : Found → Type 0
  FoundHas finds.Nothing = Unit {0}
  FoundHas (finds.One signal left right) = IsRange signal left right
  FoundHas finds.Several = Unit {0}

  -- some name has the bit's signal, and each name that has it has the bit
  pub record IsBit (bit : Bit) : Type 0 where
    pub named : Any (λ name. name.signal ≡ bit.signal) names
    pub within : All (λ name. name.signal ≡ bit.signal → bit.place < indices name) names

  abbrev pub InRange : Reference → Type 0
  InRange references.Nothing = Unit {0}
  InRange references.Several = Unit {0}
  InRange (references.Bits bits) = All IsBit bits

  each-range : AreAlike names → All (λ name. IsRange name.signal name.left name.right) names
  each-range alike k d below =
      record {
        named = (k, get_or names k d, below, get_or_default names k (get_or names k d) d below, refl);
        alike = λ (j : ℕ) (e : Name) (lt : j < length names) (same : (get_or names j e).signal ≡ (get_or names k d).signal). alike k d below j e lt (sym same);
      }

  by-same : (is_same : Bool) (signal left right : ℕ) → IsRange signal left right → FoundHas (if is_same then finds.One signal left right else finds.Several)
  by-same true signal left right h = h
  by-same false signal left right h = tt

  among-has : (some : List Name) → All (λ name. IsRange name.signal name.left name.right) some → FoundHas (found_among some)
  among-has [] h = tt
  among-has (first ∷ more) h =
      by-same (list_all (is_same_range first) more) first.signal first.left first.right (All-head (λ (name : Name). IsRange name.signal name.left name.right) first more h)

  filled-has : (Q : Name → Type 0) (first second : List Name) → All Q first → All Q second → All Q (first_filled first second)
  filled-has Q [] second h k = k
  filled-has Q (name ∷ more) second h k = h

  found-has : AreAlike names → (text : List ℕ) → FoundHas (look_up names text)
  found-has alike text =
      let Q : Name → Type 0 = λ name. IsRange name.signal name.left name.right in
      among-has (matches names text)
      (filled-has Q (filter (is_named text) names) (filter (ends_named text) names) (All-filter (is_named text) Q names (each-range alike))
      (All-filter (ends_named text) Q names (each-range alike)))

  -- a place is a bit of a signal with as many indices
  place-has : (signal left right place : ℕ) → IsRange signal left right → place < distance left right + 1 → IsBit (bit_of_signal signal place)
  place-has signal left right place h below = record {
    named = h.named;
    within = λ (k : ℕ) (d : Name) (lt : k < length names) (same : (get_or names k d).signal ≡ signal).
        up-to (distance left right) (indices (get_or names k d)) below (h.alike k d lt same);
  }
    where
      up-to : (far count : ℕ) → place < far + 1 → far + 1 ≡ count → place < count
      up-to far count lt e = omega arith

  -- so are bits that stand side by side
  side-has : (signal left right lowest width : ℕ) → IsRange signal left right → lowest + width ≤ distance left right + 1 → All IsBit (side_by_side signal lowest width)
  side-has signal left right lowest zero h within = All-nil IsBit
  side-has signal left right lowest (suc width) h within =
      All-cons IsBit (bit_of_signal signal lowest) (side_by_side signal (lowest + 1) width) (place-has signal left right lowest h (omega arith))
      (side-has signal left right (lowest + 1) width h (omega arith))

  whole-has : (found : Found) → FoundHas found → InRange (whole_of found)
  whole-has finds.Nothing h = tt
  whole-has (finds.One signal left right) h = side-has signal left right 0 (distance left right + 1) h (omega arith)
  whole-has finds.Several h = tt

  both-true : (a b : Bool) → (a && b) ≡ true → (a ≡ true) × (b ≡ true)
  both-true true b e = (refl, e)
  both-true false b e = absurd cc

  either-true : (a b : Bool) → (a || b) ≡ true → (a ≡ true) ⊎ (b ≡ true)
  either-true true b e = inl refl
  either-true false b e = inr e

  -- an index lies no farther from the right end than the left end does
  index-near : (left right index : ℕ) → is_index left right index ≡ true → distance index right ≤ distance left right
  index-near left right index e = by (either-true (nat_le left index && nat_le index right) (nat_le right index && nat_le index left) e)
    where
      by : ((nat_le left index && nat_le index right) ≡ true) ⊎ ((nat_le right index && nat_le index left) ≡ true) → distance index right ≤ distance left right
      by (inl rising) =
          let both = both-true (nat_le left index) (nat_le index right) rising in
          let low : left ≤ index = leb-true left index both.0 in
          let high : index ≤ right = leb-true index right both.1 in
          omega arith
      by (inr falling) =
          let both = both-true (nat_le right index) (nat_le index left) falling in
          let low : right ≤ index = leb-true right index both.0 in
          let high : index ≤ left = leb-true index left both.1 in
          omega arith

  index-has : (is : Bool) (signal left right index : ℕ) → is_index left right index ≡ is → IsRange signal left right
      → InRange (if is then references.Bits (side_by_side signal (distance index right) 1) else references.Nothing)
  index-has false signal left right index e h = tt
  index-has true signal left right index e h = side-has signal left right (distance index right) 1 h (omega (arith, index-near left right index e))

  bit-has : (found : Found) (index : ℕ) → FoundHas found → InRange (bit_of found index)
  bit-has finds.Nothing index h = tt
  bit-has (finds.One signal left right) index h = index-has (is_index left right index) signal left right index refl h
  bit-has finds.Several index h = tt

  with-index-has : (indexed path : Found) (index : ℕ) → FoundHas indexed → FoundHas path → InRange (with_index indexed path index)
  with-index-has finds.Nothing path index h k = bit-has path index k
  with-index-has (finds.One signal left right) path index h k = whole-has (finds.One signal left right) h
  with-index-has finds.Several path index h k = tt

  -- what stands at each index of a bus
  named-has : AreAlike names → (text : List ℕ) → FoundHas (named names text)
  named-has alike text =
      let Q : Name → Type 0 = λ name. IsRange name.signal name.left name.right in
      among-has (filter (is_named text) names) (All-filter (is_named text) Q names (each-range alike))

  behind-has : AreAlike names → (text : List ℕ) (is_whole : Bool) (index : ℕ) → FoundHas (bit_behind names text is_whole index)
  behind-has alike text true index = named-has alike (indexed_text text index)
  behind-has alike text false index = found-has alike (indexed_text text index)

  -- the only bit of a signal that was found
  only-has : (found : Found) → FoundHas found → is_hole found ≡ false → is_several found ≡ false → IsBit (only_bit (signal_in found))
  only-has finds.Nothing h hole several = cc
  only-has (finds.One signal left right) h hole several = place-has signal left right 0 h (omega arith)
  only-has finds.Several h hole several = cc

  neither : (a b : Bool) → (a || b) ≡ false → (a ≡ false) × (b ≡ false)
  neither true b e = absurd cc
  neither false b e = (refl, e)

  bits-has : (is_whole : Bool) (text : List ℕ) → AreAlike names → (low width : ℕ)
      → list_any is_hole (map (bit_behind names text is_whole) (range_with_len low width)) ≡ false
      → list_any is_several (map (bit_behind names text is_whole) (range_with_len low width)) ≡ false
      → All IsBit (map (λ found. only_bit (signal_in found)) (map (bit_behind names text is_whole) (range_with_len low width)))
  bits-has is_whole text alike low zero hole several = All-nil IsBit
  bits-has is_whole text alike low (suc width) hole several =
      let found : Found = bit_behind names text is_whole low in
      let more : List Found = map (bit_behind names text is_whole) (range_with_len (low + 1) width) in
      let no_hole = neither (is_hole found) (list_any is_hole more) hole in
      let no_several = neither (is_several found) (list_any is_several more) several in
      All-cons IsBit (only_bit (signal_in found)) (map (λ found. only_bit (signal_in found)) more)
      (only-has found (behind-has alike text is_whole low) no_hole.0 no_several.0)
      (bits-has is_whole text alike (low + 1) width no_hole.1 no_several.1)

  joined-has : (bits : List Found) (hole several : Bool) → list_any is_hole bits ≡ hole → list_any is_several bits ≡ several
      → (list_any is_hole bits ≡ false → list_any is_several bits ≡ false → All IsBit (map (λ found. only_bit (signal_in found)) bits))
      → InRange (if hole then references.Nothing else if several then references.Several else references.Bits (map (λ found. only_bit (signal_in found)) bits))
  joined-has bits true several h k each = tt
  joined-has bits false true h k each = tt
  joined-has bits false false h k each = each h k

  over-has : AreAlike names → (text : List ℕ) (found : Found) → InRange (bus_over names text found)
  over-has alike text finds.Nothing = tt
  over-has alike text (finds.One signal high low) =
      let bits : List Found = bits_behind names text high low in
      joined-has bits (list_any is_hole bits) (list_any is_several bits) refl refl
      (bits-has (is_found (named names (indexed_text text low))) text alike low (high - low + 1))
  over-has alike text finds.Several = tt

  without-has : (found : Found) (other : Reference) → FoundHas found → InRange other → InRange (without_index found other)
  without-has finds.Nothing other h k = k
  without-has (finds.One signal left right) other h k = whole-has (finds.One signal left right) h
  without-has finds.Several other h k = tt

  refers-has : AreAlike names → (text : List ℕ) (index : Option ℕ) → InRange (refers_to names text index)
  refers-has alike text None = without-has (look_up names text) (bus names text) (found-has alike text) (over-has alike text (look_up (bus_names names) text))
  refers-has alike text (Some index) =
      with-index-has (look_up names (indexed_text text index)) (look_up names text) index (found-has alike (indexed_text text index)) (found-has alike text)

  -- the bits that a path stands for are in range
  pub reference-has : AreAlike names → (path : List Token) (index : Option Token) → InRange (reference names path index)
  reference-has alike path index = refers-has alike (path_text path) (index_number index)
