-- Parts of a cube, and the cube of a state.
use Rattle.std.proofs.Common.{◌≡◌, ◌≢◌, ℕ, zero, suc, ◌+◌, ◌-◌, ◌<◌, ◌≤◌, ℤ, pos, negsuc, neg_ℤ, Bool, true, false, not, List, [], ◌∷◌, length, get_or, refl, sym, ap, ◌∙◌, inl, inr, leb, ltb, arith}
use Rattle.std.specs.List.{list_all, filter, Contains}
use Rattle.std.proofs.lemmas.Bool.{and_parts, and_from, false≢true, cases_Bool, cond_both, leb-true, lt-ltb, le-leb, not-true}
use Rattle.std.proofs.lemmas.List.{ext_get_or}
use Rattle.std.proofs.lemmas.List.Elements.{All-filter, All-contains, All-contains_itself}
use Rattle.std.proofs.lemmas.List.FromFn.{length-map-range_with_len, get_or-map-range_with_len}
use Rattle.std.proofs.lemmas.List.Kept.{AllPairs-filter}
use Rattle.std.proofs.lemmas.List.Sums.{AllPass-from_list_all, list_all-from_AllPass, length-filter, count_by-le-length}
use Rattle.clauses.specs.Literals.{variable_of, is_within, clause_within}
use Rattle.clauses.specs.Models.{is_true}
use Rattle.reach_frames.specs.Bits.{values_of, is_in_cube}
use Rattle.reach_frames.specs.Cubes.{IsCube, bit_literal, cube_of}

-- a test of all stays true of a part
all_filter : {X : Type 0} (test p : X → Bool) (xs : List X) → list_all test xs ≡ true → list_all test (filter p xs) ≡ true
all_filter test p xs all = list_all-from_AllPass test (filter p xs) (All-filter p (λ x. test x ≡ true) xs (AllPass-from_list_all test xs all))

filter_contains : {X : Type 0} (p : X → Bool) (xs : List X) (x : X) → Contains (filter p xs) x → Contains xs x
filter_contains p xs x member = All-contains (Contains xs) (filter p xs) x (All-filter p (Contains xs) xs (All-contains_itself xs)) member

-- a part of a cube is one, and each state of the cube is in the part
pub part-IsCube : (width : ℕ) (p : ℤ → Bool) (cube : List ℤ) → IsCube width cube → IsCube width (filter p cube)
part-IsCube width p cube is = record {
  within = all_filter (is_within width) p cube is.within;
  once = AllPairs-filter (λ literal other. literal ≢ other) p cube is.once;
  apart = λ literal here there. is.apart literal (filter_contains p cube literal here) (filter_contains p cube (neg_ℤ literal) there);
}

pub part_within : (p : ℤ → Bool) (cube : List ℤ) (state : List Bool) → is_in_cube cube state ≡ true → is_in_cube (filter p cube) state ≡ true
part_within p cube state all = all_filter (is_true (values_of state)) p cube all

pub part_length : (p : ℤ → Bool) (cube : List ℤ) → length (filter p cube) ≤ length cube
part_length p cube = omega (arith, length-filter p cube, count_by-le-length p cube)

-- literals within fewer variables are within more
pub within_more : (few many : ℕ) (literals : List ℤ) → few ≤ many → clause_within few literals ≡ true → clause_within many literals ≡ true
within_more few many [] less within = refl
within_more few many (literal ∷ literals) less within =
    let parts = and_parts (is_within few literal) (clause_within few literals) within in
    let sides = and_parts (ltb 0 (variable_of literal)) (leb (variable_of literal) few) parts.0 in
    let below : variable_of literal ≤ many = omega (arith, leb-true (variable_of literal) few sides.1) in
    and_from _ _ (and_from _ _ sides.0 (le-leb (variable_of literal) many below)) (within_more few many literals less parts.1)

-- no literal is its own negation
own_negation : (width : ℕ) (literal : ℤ) → is_within width literal ≡ true → literal ≡ neg_ℤ literal → ⊥
own_negation width (pos zero) within same = false≢true within
own_negation width (pos (suc n)) within same = cc
own_negation width (negsuc n) within same = cc

only_one : (literal other : ℤ) → Contains (literal ∷ []) other → literal ≡ other
only_one literal other (zero, within, at) = at
only_one literal other (suc place, within, at) = absurd (omega arith)

variable_at : (state : List Bool) (place : ℕ) → variable_of (bit_literal state place) ≡ place + 1
variable_at state place = cond_both (get_or state place false) (pos (place + 1)) (negsuc place) (λ literal. variable_of literal ≡ place + 1) (λ _. refl) (λ _. omega arith)

-- the bit that a literal says
says_bit : (state other : List Bool) (place : ℕ) → is_true (values_of other) (bit_literal state place) ≡ true → get_or other place false ≡ get_or state place false
says_bit state other place says =
    elim (cases_Bool (get_or state place false)) [
      | inl bit ↦
          let said : get_or other (place + 1 - 1) false ≡ true = rw bit at says in
          let at : place + 1 - 1 ≡ place = omega arith in
          sym (ap (λ k. get_or other k false) at) ∙ said ∙ sym bit
      | inr unset ↦
          let said : not (get_or other (suc place - 1) false) ≡ true = rw unset at says in
          let at : suc place - 1 ≡ place = omega arith in
          sym (ap (λ k. get_or other k false) at) ∙ not-true _ said ∙ sym unset
    ]

bit_says : (state : List Bool) (place : ℕ) → is_true (values_of state) (bit_literal state place) ≡ true
bit_says state place =
    elim (cases_Bool (get_or state place false)) [
      | inl bit ↦
          let at : place + 1 - 1 ≡ place = omega arith in
          rw bit (ap (λ k. get_or state k false) at ∙ bit)
      | inr unset ↦
          let at : suc place - 1 ≡ place = omega arith in
          rw unset (ap (λ k. not (get_or state k false)) at ∙ ap not unset)
    ]

-- the literal at a place of the cube of a state
literal_in : (state : List Bool) (literal : ℤ) → Contains (cube_of state) literal → (place : ℕ) × (place < length state) × (bit_literal state place ≡ literal)
literal_in state literal member =
    let within : member.0 < length state = omega (arith, member.1, length-map-range_with_len (bit_literal state) 0 (length state)) in
    (member.0, within, sym (get_or-map-range_with_len (bit_literal state) 0 (length state) member.0 member.0 literal within (omega arith)) ∙ member.2)

variable_negated : (literal : ℤ) → variable_of (neg_ℤ literal) ≡ variable_of literal
variable_negated (pos zero) = refl
variable_negated (pos (suc n)) = refl
variable_negated (negsuc n) = refl

bit_within : (state : List Bool) (place : ℕ) → place < length state → is_within (length state) (bit_literal state place) ≡ true
bit_within state place inside =
    let at = variable_at state place in
    and_from _ _ (lt-ltb 0 (variable_of (bit_literal state place)) (omega (arith, at))) (le-leb (variable_of (bit_literal state place)) (length state) (omega (arith, at)))

-- all bits of a state are a cube
pub cube_of-IsCube : (state : List Bool) → IsCube (length state) (cube_of state)
cube_of-IsCube state = record {
  within = list_all-from_AllPass (is_within (length state)) (cube_of state) (λ k d end.
      let inside : k < length state = omega (arith, end, length-map-range_with_len (bit_literal state) 0 (length state)) in
      let at = get_or-map-range_with_len (bit_literal state) 0 (length state) k k d inside (omega arith) in
      ap (is_within (length state)) at ∙ bit_within state k inside);
  once = λ i j d before end same.
      let later : j < length state = omega (arith, end, length-map-range_with_len (bit_literal state) 0 (length state)) in
      let earlier : i < length state = omega arith in
      let first = get_or-map-range_with_len (bit_literal state) 0 (length state) i i d earlier (omega arith) in
      let second = get_or-map-range_with_len (bit_literal state) 0 (length state) j j d later (omega arith) in
      let equal : i + 1 ≡ j + 1 = sym (variable_at state i) ∙ ap variable_of (sym first ∙ same ∙ second) ∙ variable_at state j in
      omega (arith, equal);
  apart = λ literal here there.
      let one = literal_in state literal here in
      let other = literal_in state (neg_ℤ literal) there in
      let inside = ap (is_within (length state)) (sym one.2) ∙ bit_within state one.0 one.1 in
      let equal : one.0 + 1 ≡ other.0 + 1 =
      sym (variable_at state one.0) ∙ ap variable_of one.2 ∙ sym (variable_negated literal) ∙ ap variable_of (sym other.2) ∙ variable_at state other.0 in
      let place : one.0 ≡ other.0 = omega (arith, equal) in
      own_negation (length state) literal inside (sym one.2 ∙ ap (bit_literal state) place ∙ other.2);
}

pub in_cube_of : (state : List Bool) → is_in_cube (cube_of state) state ≡ true
in_cube_of state =
    list_all-from_AllPass (is_true (values_of state)) (cube_of state) (λ k d end.
    let inside : k < length state = omega (arith, end, length-map-range_with_len (bit_literal state) 0 (length state)) in
    ap (is_true (values_of state)) (get_or-map-range_with_len (bit_literal state) 0 (length state) k k d inside (omega arith)) ∙ bit_says state k)

-- the only state of its width in the cube of a state is that state
pub same_in_cube : (state other : List Bool) → length other ≡ length state → is_in_cube (cube_of state) other ≡ true → other ≡ state
same_in_cube state other size all =
    let each = AllPass-from_list_all (is_true (values_of other)) (cube_of state) all in
    ext_get_or false other state size (λ k end.
    let inside : k < length state = omega (arith, end, size) in
    let within : k < length (cube_of state) = omega (arith, inside, length-map-range_with_len (bit_literal state) 0 (length state)) in
    let at = get_or-map-range_with_len (bit_literal state) 0 (length state) k k (pos 0) inside (omega arith) in
    says_bit state other k (ap (is_true (values_of other)) (sym at) ∙ each k (pos 0) within))
