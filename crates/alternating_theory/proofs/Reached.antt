-- What is reached from the start: the start, and what is owed by what is reached.
use Rattle.std.proofs.Common.{◌≡◌, inl, inr, refl, sym, ap, ◌∙◌, subst, ℕ, zero, suc, ◌+◌, ◌-◌, ◌≤◌, ◌<◌, Bool as Truth, true, false, List, length, arith}
use Rattle.std.specs.Prelude.{IsTrue, ◌&&◌, ◌||◌, ◌==◌}
use Rattle.std.proofs.lemmas.Bool.{or_cases, or_left, or_right, and_from, both_ways, eq-eqb}
use Rattle.std.proofs.lemmas.Bool.Decides.{nat_tests}
use Rattle.psl_tree.specs.declared.letter.Letter.{Letter}
use Rattle.alternating_theory.specs.Obligations.{Obligation, obligation_at}
use Rattle.alternating_theory.specs.Positive.{Positive, Const, Holds, Owed, And, Or, met, owes, OwesWithin, renumbered}
use Rattle.alternating_theory.specs.Trimmed.{some_below, reached_within, is_reached}
use Rattle.alternating_theory.proofs.Settled.{SameBelow, settled}

-- what is owed

pub same-number : (a b : ℕ) → IsTrue (a == b) → a ≡ b
same-number a b h = grind (arith, nat_tests)

pub met-owed : (p : Positive) (x : Letter) (f g : ℕ → Truth) → ((q : ℕ) → IsTrue (owes p q) → f q ≡ g q) → met p x f ≡ met p x g
met-owed (Const v) x f g e = refl
met-owed (Holds b) x f g e = refl
met-owed (Owed q) x f g e = e q (eq-eqb q q refl)
met-owed (And p r) x f g e =
    let a = met-owed p x f g (λ q h. e q (or_left (owes p q) (owes r q) h)) in let b = met-owed r x f g (λ q h. e q (or_right (owes p q) (owes r q) h)) in cc
met-owed (Or p r) x f g e =
    let a = met-owed p x f g (λ q h. e q (or_left (owes p q) (owes r q) h)) in let b = met-owed r x f g (λ q h. e q (or_right (owes p q) (owes r q) h)) in cc

pub owed-within : (low high : ℕ) (p : Positive) → OwesWithin low high p → (q : ℕ) → IsTrue (owes p q) → (low ≤ q) × (q < high)
owed-within low high (Const v) w q h = absurd (both_ways false refl h)
owed-within low high (Holds b) w q h = absurd (both_ways false refl h)
owed-within low high (Owed n) w q h = subst (λ (k : ℕ). (low ≤ k) × (k < high)) (same-number n q h) (w.0, w.1)
owed-within low high (And p r) w q h = elim (or_cases (owes p q) (owes r q) h) [ inl k ↦ owed-within low high p w.0 q k | inr k ↦ owed-within low high r w.1 q k ]
owed-within low high (Or p r) w q h = elim (or_cases (owes p q) (owes r q) h) [ inl k ↦ owed-within low high p w.0 q k | inr k ↦ owed-within low high r w.1 q k ]

pub owes-renumbered : (new : ℕ → ℕ) (p : Positive) (q : ℕ) → IsTrue (owes p q) → IsTrue (owes (renumbered new p) (new q))
owes-renumbered new (Const v) q h = h
owes-renumbered new (Holds b) q h = h
owes-renumbered new (Owed n) q h = eq-eqb (new n) (new q) (ap new (same-number n q h))
owes-renumbered new (And p r) q h = elim (or_cases (owes p q) (owes r q) h) [
  | inl k ↦ or_left (owes (renumbered new p) (new q)) (owes (renumbered new r) (new q)) (owes-renumbered new p q k)
  | inr k ↦ or_right (owes (renumbered new p) (new q)) (owes (renumbered new r) (new q)) (owes-renumbered new r q k)
]
owes-renumbered new (Or p r) q h = elim (or_cases (owes p q) (owes r q) h) [
  | inl k ↦ or_left (owes (renumbered new p) (new q)) (owes (renumbered new r) (new q)) (owes-renumbered new p q k)
  | inr k ↦ or_right (owes (renumbered new p) (new q)) (owes (renumbered new r) (new q)) (owes-renumbered new r q k)
]

-- other numbers that lie in a range
pub within-owed : (low high : ℕ) (new : ℕ → ℕ) (p : Positive) → ((q : ℕ) → IsTrue (owes p q) → (low ≤ new q) × (new q < high)) → OwesWithin low high (renumbered new p)
within-owed low high new (Const v) e = tt
within-owed low high new (Holds b) e = tt
within-owed low high new (Owed q) e = e q (eq-eqb q q refl)
within-owed low high new (And p r) e =
    (within-owed low high new p (λ q h. e q (or_left (owes p q) (owes r q) h)), within-owed low high new r (λ q h. e q (or_right (owes p q) (owes r q) h)))
within-owed low high new (Or p r) e =
    (within-owed low high new p (λ q h. e q (or_left (owes p q) (owes r q) h)), within-owed low high new r (λ q h. e q (or_right (owes p q) (owes r q) h)))

-- some number below a bound

some-same : (n : ℕ) (f g : ℕ → Truth) → SameBelow n f g → some_below n g ≡ some_below n f
some-same zero f g s = refl
some-same (suc n) f g s =
    let a = s n (omega arith) in let b = some-same n f g (λ q h. s q (omega arith)) in cc

pub some-found : (n : ℕ) (f : ℕ → Truth) → IsTrue (some_below n f) → (q : ℕ) × (q < n) × IsTrue (f q)
some-found zero f h = absurd (both_ways false refl h)
some-found (suc n) f h = elim (or_cases (f n) (some_below n f) h) as (λ _. (q : ℕ) × (q < suc n) × IsTrue (f q)) [
  | inl k ↦ (n, omega arith, k)
  | inr k ↦ let r = some-found n f k in (r.0, omega (arith, r.1), r.2)
]

pub found-some : (n : ℕ) (f : ℕ → Truth) (q : ℕ) → q < n → IsTrue (f q) → IsTrue (some_below n f)
found-some zero f q l h = absurd (omega arith)
found-some (suc n) f q l h = at (q == n) refl (λ k. found-some n f q k h)
  where
    smaller : (q == n) ≡ false → q < n
    smaller d = grind (arith, nat_tests)

    at : (b : Truth) → (q == n) ≡ b → (q < n → IsTrue (some_below n f)) → IsTrue (f n || some_below n f)
    at true e rec = or_left (f n) (some_below n f) (subst (λ (k : ℕ). IsTrue (f k)) (same-number q n e) h)
    at false e rec = or_right (f n) (some_below n f) (rec (smaller e))

module _ (os : List Obligation) (start : ℕ) where
  abbrev owed-by : ℕ → ℕ → ℕ → Truth
  owed-by k q by = reached_within k os start by && owes (obligation_at os by).delta q

  reach-grows : (k q : ℕ) → IsTrue (reached_within k os start q) → IsTrue (reached_within (suc k) os start q)
  reach-grows k q h = or_left (reached_within k os start q) (some_below (length os) (owed-by k q)) h

  reach-follows : (k : ℕ) → SameBelow (length os) (reached_within k os start) (reached_within (suc k) os start)
      → SameBelow (length os) (reached_within (suc k) os start) (reached_within (suc (suc k)) os start)
  reach-follows k s q h =
      let a = s q h in
      let b = some-same (length os) (owed-by k q) (owed-by (suc k) q) (λ by l. ap (λ (t : Truth). t && owes (obligation_at os by).delta q) (s by l)) in
      ap (λ (t : Truth). t || some_below (length os) (owed-by (suc k) q)) a ∙ ap (λ (t : Truth). reached_within k os start q || t) b

  reach-settled : SameBelow (length os) (reached_within (length os) os start) (reached_within (suc (length os)) os start)
  reach-settled = settled (length os) (λ k q. reached_within k os start q) reach-grows reach-follows

  reach-later : (k d q : ℕ) → IsTrue (reached_within k os start q) → IsTrue (reached_within (k + d) os start q)
  reach-later k zero q h = let e : k ≡ k + 0 = omega arith in subst (λ (i : ℕ). IsTrue (reached_within i os start q)) e h
  reach-later k (suc d) q h =
      let e : suc (k + d) ≡ k + suc d = omega arith in
      subst (λ (i : ℕ). IsTrue (reached_within i os start q)) e (reach-grows (k + d) q (reach-later k d q h))

  pub within-reached : (k q : ℕ) → k ≤ length os → IsTrue (reached_within k os start q) → IsTrue (is_reached os start q)
  within-reached k q l h =
      let e : k + (length os - k) ≡ length os = omega arith in
      subst (λ (i : ℕ). IsTrue (reached_within i os start q)) e (reach-later k (length os - k) q h)

  pub start-reached : IsTrue (is_reached os start start)
  start-reached = within-reached 0 start (omega arith) (eq-eqb start start refl)

  -- what a reached one owes is reached
  pub reached-closed : (by q : ℕ) → by < length os → q < length os → IsTrue (is_reached os start by) → IsTrue (owes (obligation_at os by).delta q) → IsTrue (is_reached os start q)
  reached-closed by q l m h o =
      sym (reach-settled q m)
      ∙ or_right (is_reached os start q) (some_below (length os) (owed-by (length os) q))
      (found-some (length os) (owed-by (length os) q) by l (and_from (is_reached os start by) (owes (obligation_at os by).delta q) h o))
