-- Packed truth values as a list.
use Rattle.std.proofs.Common.{◌≡◌, ◌≢◌, ◌∙◌, inl, inr, ℕ, zero, suc, ◌+◌, ◌*◌, ◌/◌, ◌%◌, ◌^◌, ◌≤◌, ◌<◌, Bool as Truth, false, List, [], ◌∷◌, length, lit<, get_or, set, slice_index, replicate, refl, ap, sym, arith}
use Rattle.std.specs.Prelude.{◌==◌}
use Rattle.std.proofs.lemmas.Bool.{cases_eq, cases_lt}
use Rattle.std.proofs.lemmas.List.{get_or-set_same, get_or-set_other}
use Rattle.std.proofs.lemmas.Bool.Decides.{nat_tests}
use Rattle.std.proofs.lemmas.Nat.Bits.{bit_at-zero, same_from_bits_below}
use Rattle.std.specs.Int.{bit_at}
use Rattle.alternating.specs.Packed.{bit, is_set}
use Rattle.alternating.specs.TruthsView.{listed, truths_of, HasBits}
use Rattle.alternating.specs.declared.truths.Truths.TheInside.{Inside}

pub length-listed : (n : ℕ) (f : ℕ → Truth) → length (listed n f) ≡ n
length-listed zero f = refl
length-listed (suc n) f = ap (λ k. suc k) (length-listed n (λ q. f (suc q)))

pub listed-at : (n : ℕ) (f : ℕ → Truth) (q : ℕ) (d : Truth) → q < n → get_or (listed n f) q d ≡ f q
listed-at zero f q d h = absurd (omega arith)
listed-at (suc n) f zero d h = refl
listed-at (suc n) f (suc q) d h = listed-at n (λ k. f (suc k)) q d (omega arith)

pub listed-false : (n : ℕ) (f : ℕ → Truth) → ((q : ℕ) → f q ≡ false) → listed n f ≡ replicate n false
listed-false zero f e = refl
listed-false (suc n) f e = let a = e zero in let b = listed-false n (λ q. f (suc q)) (λ q. e (suc q)) in cc

pub listed-same : (n : ℕ) (f g : ℕ → Truth) → ((k : ℕ) → k < n → g k ≡ f k) → listed n g ≡ listed n f
listed-same zero f g e = refl
listed-same (suc n) f g e = let a = e zero (omega arith) in let b = listed-same n (λ k. f (suc k)) (λ k. g (suc k)) (λ k h. e (suc k) (omega arith)) in cc

pub listed-set : (n : ℕ) (f g : ℕ → Truth) (q : ℕ) (v : Truth) → q < n → g q ≡ v → ((k : ℕ) → k < n → k ≢ q → g k ≡ f k) → listed n g ≡ set (listed n f) q v
listed-set zero f g q v h e s = absurd (omega arith)
listed-set (suc n) f g zero v h e s =
    let b = listed-same n (λ k. f (suc k)) (λ k. g (suc k)) (λ k l. s (suc k) (omega arith) (λ z. absurd (omega (arith, z)))) in cc
listed-set (suc n) f g (suc q) v h e s =
    let a = s zero (omega arith) (λ z. absurd (omega (arith, z))) in
    let b = listed-set n (λ k. f (suc k)) (λ k. g (suc k)) q v (omega arith) e (λ k l d. s (suc k) (omega arith) (λ z. d (omega (arith, z)))) in cc

get_or-zeros : (n i : ℕ) → let none : ℕ = 0 in get_or (replicate n none) i none ≡ none
get_or-zeros zero i = refl
get_or-zeros (suc n) zero = refl
get_or-zeros (suc n) (suc i) = get_or-zeros n i

pub no-bits : (n q : ℕ) → is_set (replicate n 0) q ≡ false
no-bits n q = ap (λ w. bit w (q % 32)) (get_or-zeros n (q / 32)) ∙ ap (λ b. b == 1) (bit_at-zero (q % 32))

-- a word was written that differs in one bit: all others are as before
pub written-other : (words : List ℕ) (q : ℕ) (word : ℕ) → q / 32 < length words
    → ((other : ℕ) → other < 32 → other ≢ q % 32 → bit word other ≡ bit (slice_index words (q / 32)) other)
    → (k : ℕ) → k ≢ q → is_set (set words (q / 32) word) k ≡ is_set words k
written-other words q word within s k d = elim (cases_eq (k / 32) (q / 32)) as (λ _. is_set (set words (q / 32) word) k ≡ is_set words k) [
  | inl same ↦ (let other : k % 32 ≢ q % 32 = λ z. d (omega (arith, same, z)) in
      ap (λ i. bit (get_or (set words (q / 32) word) i 0) (k % 32)) same
      ∙ ap (λ w. bit w (k % 32)) (get_or-set_same words (q / 32) word 0 within)
      ∙ s (k % 32) (omega arith) other
      ∙ ap (λ i. bit (get_or words i 0) (k % 32)) (sym same))
  | inr differs ↦ ap (λ w. bit w (k % 32)) (get_or-set_other words (q / 32) (k / 32) word 0 differs)
]

pub written-bits : (n : ℕ) (words : List ℕ) (q : ℕ) (word : ℕ) (v : Truth) → n ≤ 32 * length words → q < n
    → bit word (q % 32) ≡ v → ((other : ℕ) → other < 32 → other ≢ q % 32 → bit word other ≡ bit (slice_index words (q / 32)) other)
    → listed n (is_set (set words (q / 32) word)) ≡ set (listed n (is_set words)) q v
written-bits n words q word v room h e s =
    let within : q / 32 < length words = omega arith in
    listed-set n (is_set words) (is_set (set words (q / 32) word)) q v h
    (ap (λ w. bit w (q % 32)) (get_or-set_same words (q / 32) word 0 within) ∙ e)
    (λ k l d. written-other words q word within s k d)

-- each word fits still
pub written-fits : (words : List ℕ) (p word : ℕ) → p < length words → word < 2 ^ 32 → ((place : ℕ) → slice_index words place < 2 ^ 32)
    → (place : ℕ) → slice_index (set words p word) place < 2 ^ 32
written-fits words p word within small fits place = elim (cases_eq place p) as (λ _. slice_index (set words p word) place < 2 ^ 32) [
  | inl same ↦ rw (same, get_or-set_same words p word 0 within) small
  | inr differs ↦ rw (get_or-set_other words p place word 0 differs) (fits place)
]

pub zeros-fit : (n place : ℕ) → slice_index (replicate n 0) place < 2 ^ 32
zeros-fit n place = rw (get_or-zeros n place) (lit< tt)

-- lists with the same numbers at all places
same-list : (xs ys : List ℕ) → length xs ≡ length ys → ((k : ℕ) → k < length xs → get_or xs k 0 ≡ get_or ys k 0) → xs ≡ ys
same-list [] [] e h = refl
same-list [] (y ∷ ys) e h = absurd (omega (arith, e))
same-list (x ∷ xs) [] e h = absurd (omega (arith, e))
same-list (x ∷ xs) (y ∷ ys) e h =
    let a : x ≡ y = h zero (omega arith) in
    let b = same-list xs ys (omega (arith, e)) (λ k l. h (suc k) (omega (arith, l))) in cc

same-digit : (x y : ℕ) → x < 2 → y < 2 → (x == 1) ≡ (y == 1) → x ≡ y
same-digit x y p q e = grind (arith, nat_tests, e)

-- packed values that are the same have the same words
pub same-words : (a b : Inside) → HasBits a → HasBits b → truths_of a ≡ truths_of b → (a.count ≡ b.count) × (a.words.items ≡ b.words.items)
same-words a b p q e =
    let count : a.count ≡ b.count = sym (length-listed a.count (is_set a.words.items)) ∙ ap length e ∙ length-listed b.count (is_set b.words.items) in (
      count,
      same-list a.words.items b.words.items (omega (arith, count, p.room, p.few, q.room, q.few))
          (λ k h. same_from_bits_below 32 (get_or a.words.items k 0) (get_or b.words.items k 0) (p.fits k) (q.fits k) (λ i l. same-bit k i l)),
    )
  where
    each : (n : ℕ) → is_set a.words.items n ≡ is_set b.words.items n
    each n = elim (cases_lt n a.count) as (λ _. is_set a.words.items n ≡ is_set b.words.items n) [
      | inl lt ↦ sym (listed-at a.count (is_set a.words.items) n false lt) ∙ ap (λ (l : List Truth). get_or l n false) e
          ∙ listed-at b.count (is_set b.words.items) n false (omega (arith, lt, ap (λ (l : List Truth). length l) e, length-listed a.count (is_set a.words.items), length-listed b.count (is_set b.words.items)))
      | inr ge ↦ p.clear n ge ∙ sym (q.clear n (omega (arith, ge, ap (λ (l : List Truth). length l) e, length-listed a.count (is_set a.words.items), length-listed b.count (is_set b.words.items))))
    ]

    same-bit : (k i : ℕ) → i < 32 → bit_at (get_or a.words.items k 0) i ≡ bit_at (get_or b.words.items k 0) i
    same-bit k i l =
        let word : (32 * k + i) / 32 ≡ k = omega (arith, l) in
        let place : (32 * k + i) % 32 ≡ i = omega (arith, l) in
        let here : bit (get_or a.words.items k 0) i ≡ bit (get_or b.words.items k 0) i = rw (word, place) at (each (32 * k + i)) in
        same-digit _ _ (omega arith) (omega arith) here
