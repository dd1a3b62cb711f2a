-- The least set of pairs of a place and a number that an operation gives back, reached round by round.
use Rattle.std.proofs.Common.{◌≡◌, ◌⊎◌, inl, inr, refl, sym, ap, ◌∙◌, subst, ℕ, zero, suc, ◌+◌, ◌-◌, ◌*◌, ◌/◌, ◌%◌, ◌≤◌, ◌<◌, Bool as Truth, true, false, arith}
use Rattle.std.specs.Prelude.{IsTrue, ◌&&◌, ◌||◌, nat_lt, if◌then◌else◌}
use Rattle.std.proofs.lemmas.Bool.{both_ways, or_cases, or_left, or_right, and_from, lt-ltb, cases_lt}
use Rattle.std.proofs.lemmas.Nat.{div-mul-add, mod-mul-add, mul-add-lt, div_below, mod_below}
use Rattle.alternating_theory.proofs.Aborts.{same-test}
use Rattle.alternating_theory.proofs.Settled.{SameBelow, settled}

abbrev pub Op : Type 0
Op = (ℕ → ℕ → Truth) → ℕ → ℕ → Truth

-- what so many rounds give
abbrev pub rounds : Op → ℕ → ℕ → ℕ → Truth
rounds op zero p q = false
rounds op (suc k) p q = rounds op k p q || op (λ a b. rounds op k a b) p q

-- the round in which a pair comes in, of so many
abbrev pub entering : Op → ℕ → ℕ → ℕ → ℕ
entering op zero p q = 0
entering op (suc k) p q = if rounds op k p q then entering op k p q else suc k

enter-low : (op : Op) (k p q : ℕ) → entering op k p q ≤ k
enter-low op zero p q = omega arith
enter-low op (suc k) p q = at (rounds op k p q) (enter-low op k p q)
  where
    at : (t : Truth) → entering op k p q ≤ k → (if t then entering op k p q else suc k) ≤ suc k
    at true e = omega arith
    at false e = omega arith

rounds-grow : (op : Op) (d k p q : ℕ) → IsTrue (rounds op k p q) → IsTrue (rounds op (k + d) p q)
rounds-grow op zero k p q h = let e : k ≡ k + 0 = omega arith in subst (λ (i : ℕ). IsTrue (rounds op i p q)) e h
rounds-grow op (suc d) k p q h =
    let e : suc (k + d) ≡ k + suc d = omega arith in
    subst (λ (i : ℕ). IsTrue (rounds op i p q)) e (or_left (rounds op (k + d) p q) (op (λ a b. rounds op (k + d) a b) p q) (rounds-grow op d k p q h))

pub rounds-later : (op : Op) (j k p q : ℕ) → j ≤ k → IsTrue (rounds op j p q) → IsTrue (rounds op k p q)
rounds-later op j k p q l h = let e : j + (k - j) ≡ k = omega arith in subst (λ (i : ℕ). IsTrue (rounds op i p q)) e (rounds-grow op (k - j) j p q h)

-- what is in after j rounds came in by then
enter-by : (op : Op) (k j p q : ℕ) → j ≤ k → IsTrue (rounds op j p q) → entering op k p q ≤ j
enter-by op zero j p q l h = omega arith
enter-by op (suc k) j p q l h = elim (cases_lt k j) [
  | inl a ↦ omega (arith, enter-low op (suc k) p q)
  | inr a ↦ (let e = rounds-later op j k p q a h in let f = enter-by op k j p q a h in rw e f)
]

-- what is not in after j rounds comes in later
enter-after : (op : Op) (k j p q : ℕ) → j < k → rounds op j p q ≡ false → j < entering op k p q
enter-after op zero j p q l h = absurd (omega arith)
enter-after op (suc k) j p q l h = at (rounds op k p q) refl (cases_lt j k) (λ a. enter-after op k j p q a h)
  where
    at : (t : Truth) → rounds op k p q ≡ t → ((j < k) ⊎ (k ≤ j)) → (j < k → j < entering op k p q) → j < (if t then entering op k p q else suc k)
    at false e a rec = omega arith
    at true e (inl a) rec = rec a
    at true e (inr a) rec = let f : j ≡ k = omega arith in absurd (both_ways (rounds op j p q) h (subst (λ (i : ℕ). IsTrue (rounds op i p q)) (sym f) e))

module _ (n m : ℕ) (op : Op)
    (more : (f g : ℕ → ℕ → Truth) → ((p q : ℕ) → p < n → q < m → IsTrue (f p q) → IsTrue (g p q)) → (p q : ℕ) → p < n → q < m → IsTrue (op f p q) → IsTrue (op g p q)) where
  abbrev pub least : ℕ → ℕ → Truth
  least p q = rounds op (n * m) p q

  abbrev pub round : ℕ → ℕ → ℕ
  round p q = entering op (n * m) p q

  op-same : (f g : ℕ → ℕ → Truth) → ((p q : ℕ) → p < n → q < m → g p q ≡ f p q) → (p q : ℕ) → p < n → q < m → op g p q ≡ op f p q
  op-same f g e p q l h = same-test (op g p q) (op f p q) (more g f (λ a b x y k. sym (e a b x y) ∙ k) p q l h) (more f g (λ a b x y k. e a b x y ∙ k) p q l h)

  abbrev coded : ℕ → ℕ → Truth
  coded k i = rounds op k (i / m) (i % m)

  positive : (i : ℕ) → i < n * m → 0 < m
  positive i l = elim (cases_lt 0 m) [
    | inl h ↦ h
    | inr h ↦ (let e : m ≡ 0 = omega arith in absurd (none (subst (λ (k : ℕ). i < n * k) e l)))
  ]
    where
      none : i < n * 0 → ⊥
      none h = omega arith

  pair-below : (p q : ℕ) → p < n → q < m → p * m + q < n * m
  pair-below p q l h = grind (arith, mul-add-lt p m q n l h)

  decode : (k p q : ℕ) → q < m → coded k (p * m + q) ≡ rounds op k p q
  decode k p q h = let e = div-mul-add p m q h in let f = mod-mul-add p m q h in rw (e, f) refl

  follows : (k : ℕ) → SameBelow (n * m) (coded k) (coded (suc k)) → SameBelow (n * m) (coded (suc k)) (coded (suc (suc k)))
  follows k s i l =
      let z = positive i l in
      let a = s i l in
      let b = op-same (λ x y. rounds op k x y) (λ x y. rounds op (suc k) x y)
      (λ p q x y. sym (decode (suc k) p q y) ∙ s (p * m + q) (pair-below p q x y) ∙ decode k p q y) (i / m) (i % m) (div_below i m n z l) (mod_below i m z) in
      ap (λ (t : Truth). t || op (λ x y. rounds op (suc k) x y) (i / m) (i % m)) a ∙ ap (λ (t : Truth). rounds op k (i / m) (i % m) || t) b

  last : (p q : ℕ) → p < n → q < m → rounds op (suc (n * m)) p q ≡ rounds op (n * m) p q
  last p q l h =
      sym (decode (suc (n * m)) p q h)
      ∙ settled (n * m) coded (λ k i t. or_left (rounds op k (i / m) (i % m)) (op (λ a b. rounds op k a b) (i / m) (i % m)) t) follows (p * m + q) (pair-below p q l h)
      ∙ decode (n * m) p q h

  -- what the operation gives of the set is in the set
  pub least-closed : (p q : ℕ) → p < n → q < m → IsTrue (op (λ a b. least a b) p q) → IsTrue (least p q)
  least-closed p q l h k = sym (last p q l h) ∙ or_right (least p q) (op (λ a b. least a b) p q) k

  -- each pair of the set is given by those that come in before it
  pub least-falls : (p q : ℕ) → p < n → q < m → IsTrue (least p q) → IsTrue (op (λ a b. least a b && nat_lt (round a b) (round p q)) p q)
  least-falls p q l h k = at (n * m) (omega arith) k
    where
      sooner : (k : ℕ) → k < n * m → rounds op k p q ≡ false → (a b : ℕ) → a < n → b < m → IsTrue (rounds op k a b) → IsTrue (least a b && nat_lt (round a b) (round p q))
      sooner k i e a b x y t = and_from (least a b) (nat_lt (round a b) (round p q)) (rounds-later op k (n * m) a b (omega arith) t)
          (lt-ltb (round a b) (round p q) (omega (arith, enter-by op (n * m) k a b (omega arith) t, enter-after op (n * m) k p q i e)))

      at : (k : ℕ) → k ≤ n * m → IsTrue (rounds op k p q) → IsTrue (op (λ a b. least a b && nat_lt (round a b) (round p q)) p q)
      at zero i t = absurd (both_ways false refl t)
      at (suc k) i t = here (rounds op k p q) refl (λ u. at k (omega arith) u) (or_cases (rounds op k p q) (op (λ a b. rounds op k a b) p q) t)
        where
          here : (u : Truth) → rounds op k p q ≡ u → (IsTrue (rounds op k p q) → IsTrue (op (λ a b. least a b && nat_lt (round a b) (round p q)) p q))
              → ((IsTrue (rounds op k p q)) ⊎ (IsTrue (op (λ a b. rounds op k a b) p q))) → IsTrue (op (λ a b. least a b && nat_lt (round a b) (round p q)) p q)
          here true e rec c = rec e
          here false e rec (inl c) = rec c
          here false e rec (inr c) = more (λ a b. rounds op k a b) (λ a b. least a b && nat_lt (round a b) (round p q)) (sooner k (omega arith) e) p q l h c

  pub least-step : (p q : ℕ) → p < n → q < m → least p q ≡ op (λ a b. least a b) p q
  least-step p q l h = same-test (least p q) (op (λ a b. least a b) p q)
      (λ k. more (λ a b. least a b && nat_lt (round a b) (round p q)) (λ a b. least a b) (λ a b x y t. left (least a b) (nat_lt (round a b) (round p q)) t) p q l h (least-falls p q l h k))
      (least-closed p q l h)
    where
      left : (t u : Truth) → IsTrue (t && u) → IsTrue t
      left true u h = refl
      left false u h = h

  -- what holds of all that the operation gives of what it holds of, holds of the set
  pub least-sound : (T : ℕ → ℕ → Type 0)
      → ((f : ℕ → ℕ → Truth) → ((p q : ℕ) → p < n → q < m → IsTrue (f p q) → T p q) → (p q : ℕ) → p < n → q < m → IsTrue (op f p q) → T p q)
      → (p q : ℕ) → p < n → q < m → IsTrue (least p q) → T p q
  least-sound T gives p q l h k = at (n * m) p q l h k
    where
      at : (k p q : ℕ) → p < n → q < m → IsTrue (rounds op k p q) → T p q
      at zero p q l h t = absurd (both_ways false refl t)
      at (suc k) p q l h t = elim (or_cases (rounds op k p q) (op (λ a b. rounds op k a b) p q) t) as (λ _. T p q) [
        | inl u ↦ at k p q l h u
        | inr u ↦ gives (λ a b. rounds op k a b) (λ a b x y v. at k a b x y v) p q l h u
      ]
