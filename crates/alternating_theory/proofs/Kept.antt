-- The obligations whose numbers pass a test, and their new numbers.
use Rattle.std.proofs.Common.{◌≡◌, refl, sym, ap, ◌∙◌, subst, ℕ, zero, suc, ◌+◌, ◌-◌, ◌≤◌, ◌<◌, Bool as Truth, true, false, if◌then◌else◌, List, [], ◌∷◌, ◌++◌, length, arith}
use Rattle.std.specs.Prelude.{IsTrue}
use Rattle.std.proofs.lemmas.Bool.{both_ways}
use Rattle.alternating_theory.specs.Obligations.{Obligation, obligation_at}
use Rattle.alternating_theory.specs.Trimmed.{count_below, kept}

one-more : (k : ℕ) → 1 + k ≡ suc k
one-more k = omega arith

none-more : (k : ℕ) → 0 + k ≡ k
none-more k = omega arith

-- the front of a list that may be empty
behind-front : (b : Truth) (o : Obligation) (os : List Obligation) (k : ℕ)
    → obligation_at ((if b then o ∷ [] else []) ++ os) ((if b then 1 else 0) + k) ≡ obligation_at os k
behind-front true o os k = ap (λ n. obligation_at (o ∷ os) n) (one-more k)
behind-front false o os k = ap (λ n. obligation_at os n) (none-more k)

front-first : (b : Truth) (o : Obligation) (os : List Obligation) → IsTrue b → obligation_at ((if b then o ∷ [] else []) ++ os) 0 ≡ o
front-first true o os h = refl
front-first false o os h = absurd (both_ways false refl h)

pub kept-at : (keep : ℕ → Truth) (os : List Obligation) (q : ℕ) → q < length os → IsTrue (keep q) → obligation_at (kept keep os) (count_below q keep) ≡ obligation_at os q
kept-at keep [] q l h = absurd (omega arith)
kept-at keep (o ∷ os) zero l h = front-first (keep zero) o (kept (λ n. keep (suc n)) os) h
kept-at keep (o ∷ os) (suc q) l h =
    behind-front (keep zero) o (kept (λ n. keep (suc n)) os) (count_below q (λ n. keep (suc n))) ∙ kept-at (λ n. keep (suc n)) os q (omega arith) h

length-front : (b : Truth) (o : Obligation) (os : List Obligation) → length ((if b then o ∷ [] else []) ++ os) ≡ (if b then 1 else 0) + length os
length-front true o os = sym (one-more (length os))
length-front false o os = sym (none-more (length os))

pub length-kept : (keep : ℕ → Truth) (os : List Obligation) → length (kept keep os) ≡ count_below (length os) keep
length-kept keep [] = refl
length-kept keep (o ∷ os) = length-front (keep zero) o (kept (λ n. keep (suc n)) os) ∙ ap (λ n. (if keep zero then 1 else 0) + n) (length-kept (λ n. keep (suc n)) os)

-- one number more that passes the test
pub count-last : (n : ℕ) (keep : ℕ → Truth) → count_below (suc n) keep ≡ count_below n keep + (if keep n then 1 else 0)
count-last zero keep = omega arith
count-last (suc n) keep = let e = count-last n (λ q. keep (suc q)) in at (keep zero) e
  where
    at : (b : Truth) → count_below (suc n) (λ q. keep (suc q)) ≡ count_below n (λ q. keep (suc q)) + (if keep (suc n) then 1 else 0)
        → (if b then 1 else 0) + count_below (suc n) (λ q. keep (suc q)) ≡ (if b then 1 else 0) + count_below n (λ q. keep (suc q)) + (if keep (suc n) then 1 else 0)
    at true e = omega (arith, e)
    at false e = omega (arith, e)

pub count-kept : (n : ℕ) (keep : ℕ → Truth) → IsTrue (keep n) → count_below (suc n) keep ≡ count_below n keep + 1
count-kept n keep h = count-last n keep ∙ ap (λ (b : Truth). count_below n keep + (if b then 1 else 0)) h

pub count-more : (n d : ℕ) (keep : ℕ → Truth) → count_below n keep ≤ count_below (n + d) keep
count-more n zero keep = let e : n + 0 ≡ n = omega arith in rw e (omega arith)
count-more n (suc d) keep =
    let e : n + suc d ≡ suc (n + d) = omega arith in
    let k = count-more n d keep in
    let l = count-last (n + d) keep in
    rw e (omega (arith, k, l))

-- a number that passes gets a smaller new number than a later one
pub count-less : (m n : ℕ) (keep : ℕ → Truth) → m < n → IsTrue (keep m) → count_below m keep < count_below n keep
count-less m n keep l h =
    let d : suc m + (n - suc m) ≡ n = omega arith in
    let e = count-more (suc m) (n - suc m) keep in
    let k = count-kept m keep h in
    subst (λ (i : ℕ). count_below m keep < count_below i keep) d (omega (arith, e, k))

-- each of them has the new number of some number that passes
Origin : (ℕ → Truth) → List Obligation → ℕ → Type 0
Origin keep os q = (j : ℕ) × (j < length os) × IsTrue (keep j) × (q ≡ count_below j keep)

pub kept-origin : (keep : ℕ → Truth) (os : List Obligation) (q : ℕ) → q < length (kept keep os) → (j : ℕ) × (j < length os) × IsTrue (keep j) × (q ≡ count_below j keep)
kept-origin keep [] q l = absurd (omega arith)
kept-origin keep (o ∷ os) q l = at (keep zero) refl (λ k m. kept-origin (λ n. keep (suc n)) os k m) q l
  where
    at : (b : Truth) → keep zero ≡ b
        → ((k : ℕ) → k < length (kept (λ n. keep (suc n)) os) → (j : ℕ) × (j < length os) × IsTrue (keep (suc j)) × (k ≡ count_below j (λ n. keep (suc n))))
        → (k : ℕ) → k < length ((if b then o ∷ [] else []) ++ kept (λ n. keep (suc n)) os)
        → (j : ℕ) × (j < length (o ∷ os)) × IsTrue (keep j) × (k ≡ count_below j keep)
    at true e rec zero m = (0, omega arith, e, refl)
    at true e rec (suc k) m =
        let r = rec k (omega arith) in
        (suc r.0, omega (arith, r.1), r.2, sym (one-more k) ∙ ap (λ n. 1 + n) r.3 ∙ ap (λ (c : Truth). (if c then 1 else 0) + count_below r.0 (λ n. keep (suc n))) (sym e))
    at false e rec k m =
        let r = rec k m in
        (suc r.0, omega (arith, r.1), r.2, sym (none-more k) ∙ ap (λ n. 0 + n) r.3 ∙ ap (λ (c : Truth). (if c then 1 else 0) + count_below r.0 (λ n. keep (suc n))) (sym e))
