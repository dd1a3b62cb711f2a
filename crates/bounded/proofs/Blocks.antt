-- The free nodes of places: where they stand, and what they are told.
use Rattle.std.proofs.Common.{◌≡◌, ℕ, zero, suc, ◌+◌, ◌*◌, ◌<◌, ◌≤◌, Bool, false, cond, List, [], ◌∷◌, ◌++◌, map, take, length, get_or, refl, sym, ap, ◌∙◌, arith, length-append, suc-mul}
use Rattle.std.specs.Bool.{IsTrue}
use Rattle.std.specs.List.{flat_map, range_with_len}
use Rattle.std.proofs.lemmas.Bool.{and_parts}
use Rattle.std.proofs.lemmas.List.{get_or_append_left, get_or-append-add}
use Rattle.std.proofs.lemmas.List.FromFn.{length-map-range_with_len}
use Rattle.std.proofs.lemmas.List.Sums.{sum_by-cons}
use Rattle.std.proofs.lemmas.Nat.{mul-add-lt}
use Rattle.alternating_theory.specs.Obligations.{Automaton, Obligation, obligation_at}
use Rattle.bounded_theory.specs.Digits.{number_width}
use Rattle.clauses.specs.Literals.{clause_within, is_within}
use Rattle.clauses.specs.Models.{Assignment}
use Rattle.gates_nodes.specs.declared.cover.Cover.{Cover}
use Rattle.gates_nodes.specs.declared.node.Node.{Node}
use Rattle.gates_nodes.specs.declared.node.Node.TheVariants.{Free}
use Rattle.gates_nodes.specs.Nodes.{nodes_hold, nodes_within, told}
use Rattle.gates_nodes.proofs.Values.{nodes_hold-append, nodes_within-append}
use Rattle.gates_theory.specs.Circuits.{same}
use Rattle.gates_theory.specs.Distinct.{following}
use Rattle.gates_theory.proofs.Literals.{within_from}
use Rattle.gates_theory.proofs.Parts.{same-is}
use Rattle.gates_theory.proofs.Within.{following-within}
use Rattle.run_terms.specs.Numbers.{bits_of_number}
use Rattle.run_terms.proofs.NumberValues.{bits_of_number-length}
use Rattle.bounded.specs.Places.{begins_at, bit_at, bits_before, bits_of, block, digits_of, number_at, owed_at, place_bits, place_nodes}

-- blocks of one size, one behind another
abbrev blocks : ℕ → ℕ → ℕ → ℕ → List Node
blocks base size first count = flat_map (λ place. block (base + place) size) (range_with_len first count)

block-length : (label size : ℕ) → length (block label size) ≡ size
block-length label size = length-map-range_with_len (λ bit. Free label bit) 0 size

blocks-length : (base size first count : ℕ) → length (blocks base size first count) ≡ count * size
blocks-length base size first zero = omega arith
blocks-length base size first (suc count) =
    omega (arith, length-append (block (base + first) size) (blocks base size (first + 1) count), block-length (base + first) size, blocks-length base size (first + 1) count, suc-mul count size)

block-within : (before label first size : ℕ) → IsTrue (nodes_within before (map (λ bit. Free label bit) (range_with_len first size)))
block-within before label first zero = refl
block-within before label first (suc size) = block-within (suc before) label (first + 1) size

blocks-within : (before base size first count : ℕ) → IsTrue (nodes_within before (blocks base size first count))
blocks-within before base size first zero = refl
blocks-within before base size first (suc count) =
    nodes_within-append before (before + length (block (base + first) size)) (block (base + first) size) (blocks base size (first + 1) count) refl
    (block-within before (base + first) 0 size) (blocks-within (before + length (block (base + first) size)) base size (first + 1) count)

pub places-length : (a : Automaton) (n : ℕ) → length (place_nodes a n) ≡ suc (suc n) * place_bits a + n
places-length a n =
    omega (arith, length-append (blocks (suc n) (place_bits a) 0 (suc (suc n))) (block (suc n + suc (suc n)) n), blocks-length (suc n) (place_bits a) 0 (suc (suc n)), block-length (suc n + suc (suc n)) n)

pub places-within : (a : Automaton) (n before : ℕ) → IsTrue (nodes_within before (place_nodes a n))
places-within a n before =
    let front = blocks (suc n) (place_bits a) 0 (suc (suc n)) in
    nodes_within-append before (before + length front) front (block (suc n + suc (suc n)) n) refl
    (blocks-within before (suc n) (place_bits a) 0 (suc (suc n))) (block-within (before + length front) (suc n + suc (suc n)) 0 n)

-- what they are told
module _ (covers : List Cover) (bits : ℕ → ℕ → Bool) (v : Assignment) where
  block-told : (before label first size : ℕ) → IsTrue (nodes_hold covers (told bits) v before (map (λ bit. Free label bit) (range_with_len first size)))
      → (k : ℕ) → k < size → v (suc (before + k)) ≡ bits label (first + k)
  block-told before label first zero hold k below = absurd (omega arith)
  block-told before label first (suc size) hold zero below =
      let parts = and_parts (same (v (suc before)) (bits label first)) (nodes_hold covers (told bits) v (suc before) (map (λ bit. Free label bit) (range_with_len (first + 1) size))) hold in
      ap (λ j. v (suc j)) (omega arith) ∙ same-is (v (suc before)) (bits label first) parts.0 ∙ ap (bits label) (omega arith)
  block-told before label first (suc size) hold (suc k) below =
      let parts = and_parts (same (v (suc before)) (bits label first)) (nodes_hold covers (told bits) v (suc before) (map (λ bit. Free label bit) (range_with_len (first + 1) size))) hold in
      ap (λ j. v (suc j)) (omega arith) ∙ block-told (suc before) label (first + 1) size parts.1 k (omega arith) ∙ ap (bits label) (omega arith)

  blocks-told : (before base size first count : ℕ) → IsTrue (nodes_hold covers (told bits) v before (blocks base size first count))
      → (p k : ℕ) → p < count → k < size → v (suc (before + p * size + k)) ≡ bits (base + (first + p)) k
  blocks-told before base size first zero hold p k low below = absurd (omega arith)
  blocks-told before base size first (suc count) hold zero k low below =
      let front = block (base + first) size in
      let back = blocks base size (first + 1) count in
      let after : before + size ≡ before + length front = omega (arith, block-length (base + first) size) in
      let parts = and_parts (nodes_hold covers (told bits) v before front) (nodes_hold covers (told bits) v (before + size) back)
      (sym (nodes_hold-append covers (told bits) v before (before + size) front back after) ∙ hold) in
      ap (λ j. v (suc j)) (omega arith) ∙ block-told before (base + first) 0 size parts.0 k below
      ∙ ap (λ j. bits j (0 + k)) (omega arith) ∙ ap (bits (base + (first + 0))) (omega arith)
  blocks-told before base size first (suc count) hold (suc p) k low below =
      let front = block (base + first) size in
      let back = blocks base size (first + 1) count in
      let after : before + size ≡ before + length front = omega (arith, block-length (base + first) size) in
      let parts = and_parts (nodes_hold covers (told bits) v before front) (nodes_hold covers (told bits) v (before + size) back)
      (sym (nodes_hold-append covers (told bits) v before (before + size) front back after) ∙ hold) in
      ap (λ j. v (suc j)) (omega (arith, suc-mul p size)) ∙ blocks-told (before + size) base size (first + 1) count parts.1 p k (omega arith) below
      ∙ ap (λ j. bits j k) (omega arith)

  pub record AreTold (a : Automaton) (n before : ℕ) : Type 0 where
    pub places : (p k : ℕ) → p < suc (suc n) → k < place_bits a → v (suc (before + p * place_bits a + k)) ≡ bits (suc n + p) k
    pub loops : (p : ℕ) → p < n → v (suc (before + suc (suc n) * place_bits a + p)) ≡ bits (suc n + suc (suc n)) p

  pub are-told : (a : Automaton) (n before : ℕ) → IsTrue (nodes_hold covers (told bits) v before (place_nodes a n)) → AreTold a n before
  are-told a n before hold =
      let size = place_bits a in
      let front = blocks (suc n) size 0 (suc (suc n)) in
      let back = block (suc n + suc (suc n)) n in
      let after : before + suc (suc n) * size ≡ before + length front = omega (arith, blocks-length (suc n) size 0 (suc (suc n))) in
      let parts = and_parts (nodes_hold covers (told bits) v before front) (nodes_hold covers (told bits) v (before + suc (suc n) * size) back)
      (sym (nodes_hold-append covers (told bits) v before (before + suc (suc n) * size) front back after) ∙ hold) in
      record {
        places = λ p k low below. blocks-told before (suc n) size 0 (suc (suc n)) parts.0 p k low below ∙ ap (λ j. bits j k) (omega arith);
        loops = λ p low. block-told (before + suc (suc n) * size) (suc n + suc (suc n)) 0 n parts.1 p low ∙ ap (bits (suc n + suc (suc n))) (omega arith);
      }

-- the bits of an obligation are among those of a place
bits-cons : (w : ℕ) (o : Obligation) (os : List Obligation) → bits_of w (o ∷ os) ≡ suc (digits_of w o) + bits_of w os
bits-cons w o os = sum_by-cons (λ obligation. suc (digits_of w obligation)) o os

pub bits-fit : (w : ℕ) (os : List Obligation) (q : ℕ) → q < length os → bits_of w (take q os) + suc (digits_of w (obligation_at os q)) ≤ bits_of w os
bits-fit w [] q low = absurd (omega arith)
bits-fit w (o ∷ os) zero low = omega (arith, bits-cons w o os)
bits-fit w (o ∷ os) (suc q) low = omega (arith, bits-cons w o os, bits-cons w o (take q os), bits-fit w os q (omega arith))

-- with one obligation more there are its bits more
pub bits-next : (w : ℕ) (os : List Obligation) (q : ℕ) → q < length os → bits_of w (take (suc q) os) ≡ bits_of w (take q os) + suc (digits_of w (obligation_at os q))
bits-next w [] q low = absurd (omega arith)
bits-next w (o ∷ os) zero low = omega (arith, bits-cons w o [])
bits-next w (o ∷ os) (suc q) low = omega (arith, bits-cons w o (take q os), bits-cons w o (take (suc q) os), bits-next w os q (omega arith))

pub bits-below : (a : Automaton) (q : ℕ) → q < length a.obligations
    → bits_before a q + suc (digits_of (number_width (length a.obligations)) (obligation_at a.obligations q)) ≤ place_bits a
bits-below a q low = bits-fit (number_width (length a.obligations)) a.obligations q low

-- an obligation that is not accepting has all digits of a number
pub number-is : (a : Automaton) (before p q : ℕ) → (obligation_at a.obligations q).accepting ≡ false
    → number_at a before p q ≡ following (suc (before + p * place_bits a + bits_before a q)) (number_width (length a.obligations))
number-is a before p q plain =
    ap (λ b. following (suc (before + p * place_bits a + bits_before a q)) (cond b 0 (number_width (length a.obligations)))) plain

pub number-fits : (a : Automaton) (n before p q : ℕ) → p < suc (suc n) → q < length a.obligations → (obligation_at a.obligations q).accepting ≡ false
    → suc (before + p * place_bits a + bits_before a q) + number_width (length a.obligations) ≤ before + (suc (suc n) * place_bits a + n)
number-fits a n before p q low below plain =
    let w = number_width (length a.obligations) in
    let d = digits_of w (obligation_at a.obligations q) in
    let same : d ≡ w = ap (λ b. cond b 0 w) plain in
    let fit = bits-below a q below in
    let e = mul-add-lt p (place_bits a) (bits_before a q + d) (suc (suc n)) low (omega (arith, fit)) in
    omega (arith, same, fit, e)

-- the bits of one place are not more than those of all
pub places-many : (a : Automaton) (n : ℕ) → place_bits a + n ≤ length (place_nodes a n)
places-many a n = omega (arith, places-length a n, suc-mul (suc n) (place_bits a))

-- so their literals are those of variables
module _ (a : Automaton) (n before variables : ℕ) (many : before + (suc (suc n) * place_bits a + n) ≤ variables) where
  pub bit-in : (p k : ℕ) → p < suc (suc n) → k < place_bits a → IsTrue (is_within variables (bit_at a before p k))
  bit-in p k low below =
      let e = mul-add-lt p (place_bits a) k (suc (suc n)) low below in
      within_from variables (bit_at a before p k) (omega arith) (omega (arith, e))

  pub owed-in : (p q : ℕ) → p < suc (suc n) → q < length a.obligations → IsTrue (is_within variables (owed_at a before p q))
  owed-in p q low below = bit-in p (bits_before a q) low (omega (arith, bits-below a q below))

  pub number-in : (p q : ℕ) → p < suc (suc n) → q < length a.obligations → IsTrue (clause_within variables (number_at a before p q))
  number-in p q low below =
      let d = digits_of (number_width (length a.obligations)) (obligation_at a.obligations q) in
      let fit = bits-below a q below in
      let e = mul-add-lt p (place_bits a) (bits_before a q + d) (suc (suc n)) low (omega (arith, fit)) in
      following-within variables (suc (before + p * place_bits a + bits_before a q)) d (omega (arith, e))

  pub begins-in : (p : ℕ) → p < n → IsTrue (is_within variables (begins_at a n before p))
  begins-in p low = within_from variables (begins_at a n before p) (omega arith) (omega arith)

-- the bits of a place: of each obligation from one on whether it is owed, and the digits of its number
abbrev pub place_told : ℕ → (ℕ → Bool) → (ℕ → ℕ) → List Obligation → ℕ → List Bool
place_told w owed number [] q = []
place_told w owed number (o ∷ os) q = (owed q ∷ bits_of_number (digits_of w o) (number q)) ++ place_told w owed number os (suc q)

pub place-told : (w : ℕ) (owed : ℕ → Bool) (number : ℕ → ℕ) (os : List Obligation) (first q j : ℕ) → q < length os → j < suc (digits_of w (obligation_at os q))
    → get_or (place_told w owed number os first) (bits_of w (take q os) + j) false
    ≡ get_or (owed (first + q) ∷ bits_of_number (digits_of w (obligation_at os q)) (number (first + q))) j false
place-told w owed number [] first q j low below = absurd (omega arith)
place-told w owed number (o ∷ os) first zero j low below =
    let here = owed first ∷ bits_of_number (digits_of w o) (number first) in
    let e : first ≡ first + 0 = omega arith in
    ap (λ k. get_or (here ++ place_told w owed number os (suc first)) k false) (omega arith)
    ∙ get_or_append_left here (place_told w owed number os (suc first)) false j (omega (arith, bits_of_number-length (digits_of w o) (number first)))
    ∙ ap (λ k. get_or (owed k ∷ bits_of_number (digits_of w o) (number k)) j false) e
place-told w owed number (o ∷ os) first (suc q) j low below =
    let here = owed first ∷ bits_of_number (digits_of w o) (number first) in
    let e : suc first + q ≡ first + suc q = omega arith in
    ap (λ k. get_or (here ++ place_told w owed number os (suc first)) k false)
    (omega (arith, bits-cons w o (take q os), bits_of_number-length (digits_of w o) (number first)))
    ∙ get_or-append-add here (place_told w owed number os (suc first)) (bits_of w (take q os) + j) false
    ∙ place-told w owed number os (suc first) q j (omega arith) below
    ∙ ap (λ k. get_or (owed k ∷ bits_of_number (digits_of w (obligation_at os q)) (number k)) j false) e
