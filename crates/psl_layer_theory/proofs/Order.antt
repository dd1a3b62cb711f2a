-- The order of three numbers, by the first, then the second, then the third.
use Rattle.std.proofs.Common.{◌≡◌, ℕ, ◌<◌, ◌≤◌, ◌==◌, ◌&&◌, ◌||◌, nat_lt, Bool, true, false, arith}
use Rattle.std.proofs.lemmas.Bool.Decides.{nat_tests}

-- three numbers go before three others
abbrev pub lex : ℕ → ℕ → ℕ → ℕ → ℕ → ℕ → Bool
lex a b c x y z = nat_lt a x || ((a == x) && (nat_lt b y || ((b == y) && nat_lt c z)))

lex-false : (a b c x y z : ℕ) → lex a b c x y z ≡ false → (x ≤ a) × (a ≡ x → (y ≤ b) × (b ≡ y → z ≤ c))
lex-false a b c x y z h = grind (arith, nat_tests)

lex-true : (a b c x y z : ℕ) → lex a b c x y z ≡ true → (a ≤ x) × (a ≡ x → (b ≤ y) × (b ≡ y → c < z))
lex-true a b c x y z h = grind (arith, nat_tests)

lex-is_false : (a b c x y z : ℕ) → (x ≤ a) × (a ≡ x → (y ≤ b) × (b ≡ y → z ≤ c)) → lex a b c x y z ≡ false
lex-is_false a b c x y z h = grind (arith, nat_tests)

pub lex-self : (a b c : ℕ) → lex a b c a b c ≡ false
lex-self a b c = lex-is_false a b c a b c (omega arith, λ _. (omega arith, λ _. omega arith))

-- not going before leads on
pub lex-along : (a b c x y z p q r : ℕ) → lex a b c x y z ≡ false → lex x y z p q r ≡ false → lex a b c p q r ≡ false
lex-along a b c x y z p q r h k =
    let first = lex-false a b c x y z h in
    let second = lex-false x y z p q r k in
    let one : x ≤ a = first.0 in
    let two : p ≤ x = second.0 in
    lex-is_false a b c p q r (
      omega arith,
      λ same.
          let ax : a ≡ x = omega arith in
          let xp : x ≡ p = omega arith in
          let third = first.1 ax in
          let fourth = second.1 xp in
          let three : y ≤ b = third.0 in
          let four : q ≤ y = fourth.0 in (
            omega arith,
            λ same_column.
                let by : b ≡ y = omega arith in
                let yq : y ≡ q = omega arith in
                let five : z ≤ c = third.1 by in
                let six : r ≤ z = fourth.1 yq in
                omega arith,
          ),
    )

-- what goes before is not gone before
pub lex-after : (a b c x y z : ℕ) → lex a b c x y z ≡ true → lex x y z a b c ≡ false
lex-after a b c x y z h =
    let first = lex-true a b c x y z h in
    let one : a ≤ x = first.0 in
    lex-is_false x y z a b c (
      omega arith,
      λ same.
          let third = first.1 (omega arith) in
          let two : b ≤ y = third.0 in (
            omega arith,
            λ same_column.
                let three : c < z = third.1 (omega arith) in
                omega arith,
          ),
    )

-- three numbers of which neither go before the others are the same
pub lex-neither : (a b c x y z : ℕ) → lex a b c x y z ≡ false → lex x y z a b c ≡ false → (a ≡ x) × (b ≡ y) × (c ≡ z)
lex-neither a b c x y z h k =
    let first = lex-false a b c x y z h in
    let second = lex-false x y z a b c k in
    let one : x ≤ a = first.0 in
    let two : a ≤ x = second.0 in
    let ax : a ≡ x = omega arith in
    let xa : x ≡ a = omega arith in
    let third = first.1 ax in
    let fourth = second.1 xa in
    let three : y ≤ b = third.0 in
    let four : b ≤ y = fourth.0 in
    let by : b ≡ y = omega arith in
    let yb : y ≡ b = omega arith in
    let five : z ≤ c = third.1 by in
    let six : c ≤ z = fourth.1 yb in
    (omega arith, omega arith, omega arith)
