-- One bit of words of 64 bits.
use Rattle.std.proofs.Common.{◌≡◌, ◌≢◌, ◌⊎◌, inl, inr, refl, sym, ap, ◌∙◌, ℕ, suc, ◌-◌, ◌/◌, ◌^◌, ◌<◌, Bool as Truth, true, false, min, max, bit_and, bit_or, w64, arith, not}
use Rattle.std.specs.Prelude.{◌==◌, ◌&&◌, ◌||◌}
use Rattle.std.specs.Int.{bit_at, bit_not}
use Rattle.std.proofs.lemmas.Bool.{cases_eq}
use Rattle.std.proofs.lemmas.Bool.Decides.{nat_tests}
use Rattle.std.proofs.lemmas.Nat.Bits.{bit_at_and, bit_at_or, bit_at_not, bit_at_ones, bit_at-zero, bit_at-suc, bit_at-lt, bit_at-pow_same, bit_at-pow_other, bit_at_above}
use Rattle.alternating.specs.Packed.{bit}
use Rattle.alternating_blocks.specs.Block.{follows}

digit : (n : ℕ) → n < 2 → (n ≡ 0) ⊎ (n ≡ 1)
digit n h = elim (cases_eq n 0) as (λ _. (n ≡ 0) ⊎ (n ≡ 1)) [ inl e ↦ inl e | inr d ↦ inr (omega arith) ]

min-and : (a b : ℕ) → a < 2 → b < 2 → (min a b == 1) ≡ ((a == 1) && (b == 1))
min-and a b h k = elim (digit a h) as (λ _. (min a b == 1) ≡ ((a == 1) && (b == 1))) [
  | inl e ↦ elim (digit b k) as (λ _. (min a b == 1) ≡ ((a == 1) && (b == 1))) [ inl f ↦ rw (e, f) refl | inr f ↦ rw (e, f) refl ]
  | inr e ↦ elim (digit b k) as (λ _. (min a b == 1) ≡ ((a == 1) && (b == 1))) [ inl f ↦ rw (e, f) refl | inr f ↦ rw (e, f) refl ]
]

max-or : (a b : ℕ) → a < 2 → b < 2 → (max a b == 1) ≡ ((a == 1) || (b == 1))
max-or a b h k = elim (digit a h) as (λ _. (max a b == 1) ≡ ((a == 1) || (b == 1))) [
  | inl e ↦ elim (digit b k) as (λ _. (max a b == 1) ≡ ((a == 1) || (b == 1))) [ inl f ↦ rw (e, f) refl | inr f ↦ rw (e, f) refl ]
  | inr e ↦ elim (digit b k) as (λ _. (max a b == 1) ≡ ((a == 1) || (b == 1))) [ inl f ↦ rw (e, f) refl | inr f ↦ rw (e, f) refl ]
]

pub bit-and : (a b i : ℕ) → bit (bit_and a b) i ≡ (bit a i && bit b i)
bit-and a b i = ap (λ n. n == 1) (bit_at_and a b i) ∙ min-and (bit_at a i) (bit_at b i) (bit_at-lt a i) (bit_at-lt b i)

pub bit-or : (a b i : ℕ) → bit (bit_or a b) i ≡ (bit a i || bit b i)
bit-or a b i = ap (λ n. n == 1) (bit_at_or a b i) ∙ max-or (bit_at a i) (bit_at b i) (bit_at-lt a i) (bit_at-lt b i)

turned : (a : ℕ) → a < 2 → (1 - a == 1) ≡ not (a == 1)
turned a h = elim (digit a h) as (λ _. (1 - a == 1) ≡ not (a == 1)) [ inl e ↦ rw e refl | inr e ↦ rw e refl ]

pub bit-not : (n i : ℕ) → n < 2 ^ 64 → i < 64 → bit (bit_not w64 n) i ≡ not (bit n i)
bit-not n i h k = ap (λ n. n == 1) (bit_at_not w64 n i h k) ∙ turned (bit_at n i) (bit_at-lt n i)

pub bit-none : (i : ℕ) → bit 0 i ≡ false
bit-none i = ap (λ n. n == 1) (bit_at-zero i)

pub bit-all : (i : ℕ) → i < 64 → bit 18446744073709551615 i ≡ true
bit-all i h = ap (λ n. n == 1) (bit_at_ones 64 i h)

-- the bits of a word one place on, and of another one at the last place
pub bit-next : (word after i : ℕ) → word < 2 ^ 64 → i < 64 → bit (bit_or (word / 2) (bit_and after 9223372036854775808)) i ≡ follows word after i
bit-next word after i small h =
    bit-or (word / 2) (bit_and after 9223372036854775808) i
    ∙ ap (λ b. bit (word / 2) i || b) (bit-and after 9223372036854775808 i)
    ∙ ap (λ b. b || (bit after i && bit 9223372036854775808 i)) (sym (ap (λ n. n == 1) (bit_at-suc word i)))
    ∙ elim (cases_eq i 63) as (λ _. (bit word (suc i) || (bit after i && bit 9223372036854775808 i)) ≡ follows word after i) [
      | inl e ↦ rw e (last e)
      | inr d ↦ other d
    ]
  where
    none : bit word 64 ≡ false
    none = ap (λ n. n == 1) (bit_at_above word 64 64 small (omega arith))

    and-true : (t : Truth) → (false || (t && true)) ≡ t
    and-true true = refl
    and-true false = refl

    last : i ≡ 63 → (bit word 64 || (bit after 63 && bit 9223372036854775808 63)) ≡ bit after 63
    last e = rw (none, ap (λ n. n == 1) (bit_at-pow_same 63)) (and-true (bit after 63))

    or-none : (s t : Truth) → (s || (t && false)) ≡ s
    or-none true true = refl
    or-none true false = refl
    or-none false true = refl
    or-none false false = refl

    not-last : i ≢ 63 → (i == 63) ≡ false
    not-last d = grind (arith, nat_tests)

    other : i ≢ 63 → (bit word (suc i) || (bit after i && bit 9223372036854775808 i)) ≡ follows word after i
    other d = rw (ap (λ n. n == 1) (bit_at-pow_other 63 i d), not-last d) (or-none (bit word (suc i)) (bit after i))
