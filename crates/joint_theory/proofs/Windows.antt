-- Where no path of some length keeps a window open, no path leads from a start to what is bad.
use Rattle.std.proofs.Common.{◌≡◌, sym, ap, ◌∙◌, subst, ℕ, zero, suc, ◌+◌, ◌-◌, ◌≤◌, ◌<◌, inl, inr, arith}
use Rattle.std.specs.Prelude.{nat_lt, if◌then◌else◌}
use Rattle.std.proofs.lemmas.Bool.{cases_lt, lt-ltb, le-ltb, cond-true, cond-false}

-- states at the places 0 to the last, each linked with the next
pub record IsWalk {A : Type 0} (Is : A → Type 0) (Linked : A → A → Type 0) (last : ℕ) (walk : ℕ → A) : Type 0 where
  pub is : (i : ℕ) → i ≤ last → Is (walk i)
  pub linked : (i : ℕ) → i < last → Linked (walk i) (walk (suc i))

-- no walk keeps the window open
pub record IsShut {A : Type 0} (Is Starts IsBad : A → Type 0) (Linked : A → A → Type 0) (window : ℕ) : Type 0 where
  pub short : (last : ℕ) (walk : ℕ → A) → last < window → IsWalk Is Linked last walk → Starts (walk 0) → IsBad (walk last) → ⊥
  pub long : (walk : ℕ → A) → IsWalk Is Linked window walk → ((i j : ℕ) → i < j → j < window → walk i ≡ walk j → ⊥)
      → ((i : ℕ) → i < window → IsBad (walk i) → ⊥) → IsBad (walk window) → ⊥

-- so many steps left out behind a place
abbrev spliced : {A : Type 0} → (ℕ → A) → ℕ → ℕ → ℕ → A
spliced walk i d k = if nat_lt i k then walk (k + d) else walk k

spliced-late : {A : Type 0} (walk : ℕ → A) (i d k : ℕ) → i < k → spliced walk i d k ≡ walk (k + d)
spliced-late walk i d k l = cond-true (nat_lt i k) (walk (k + d)) (walk k) (lt-ltb i k l)

spliced-early : {A : Type 0} (walk : ℕ → A) (i d k : ℕ) → k ≤ i → spliced walk i d k ≡ walk k
spliced-early walk i d k l = cond-false (nat_lt i k) (walk (k + d)) (walk k) (le-ltb i k l)

module _ (A : Type 0) (Is Starts IsBad : A → Type 0) (Linked : A → A → Type 0) where
  spliced-linked : (last d i : ℕ) (walk : ℕ → A) → IsWalk Is Linked (last + d) walk → i ≤ last → walk i ≡ walk (i + d) → (k : ℕ) → k < last
      → Linked (spliced walk i d k) (spliced walk i d (suc k))
  spliced-linked last d i walk w few same k l = elim (cases_lt i k) [
    | inl u ↦ rw (spliced-late walk i d k u, spliced-late walk i d (suc k) (omega arith)) (subst (λ (n : ℕ). Linked (walk (k + d)) (walk n)) (omega arith) (w.linked (k + d) (omega arith)))
    | inr u ↦ elim (cases_lt k i) [
      | inl v ↦ rw (spliced-early walk i d k u, spliced-early walk i d (suc k) v) (w.linked k (omega arith))
      | inr v ↦ (
          let e : k ≡ i = omega arith in
          rw (spliced-early walk i d k u, spliced-late walk i d (suc k) (omega arith))
          (subst (λ (a : A). Linked a (walk (suc k + d))) (sym same ∙ ap walk (sym e))
          (subst (λ (n : ℕ). Linked (walk (i + d)) (walk n)) (omega arith) (w.linked (i + d) (omega arith)))))
    ]
  ]

  spliced-is : (last d i : ℕ) (walk : ℕ → A) → IsWalk Is Linked (last + d) walk → (k : ℕ) → k ≤ last → Is (spliced walk i d k)
  spliced-is last d i walk w k l = elim (cases_lt i k) [
    | inl u ↦ rw (spliced-late walk i d k u) (w.is (k + d) (omega arith))
    | inr u ↦ rw (spliced-early walk i d k u) (w.is k (omega arith))
  ]

  spliced-walk : (last d i : ℕ) (walk : ℕ → A) → IsWalk Is Linked (last + d) walk → i ≤ last → walk i ≡ walk (i + d) → IsWalk Is Linked last (spliced walk i d)
  spliced-walk last d i walk w few same = record { is = spliced-is last d i walk w; linked = spliced-linked last d i walk w few same }

  spliced-last : (last d i : ℕ) (walk : ℕ → A) → i ≤ last → walk i ≡ walk (i + d) → spliced walk i d last ≡ walk (last + d)
  spliced-last last d i walk few same = elim (cases_lt i last) [
    | inl u ↦ spliced-late walk i d last u
    | inr u ↦ (let e : last ≡ i = omega arith in spliced-early walk i d last u ∙ ap walk e ∙ same ∙ ap (λ (n : ℕ). walk (n + d)) (sym e))
  ]

  shorter : (last more : ℕ) (walk : ℕ → A) → IsWalk Is Linked (last + more) walk → IsWalk Is Linked last walk
  shorter last more walk w = record { is = λ i l. w.is i (omega arith); linked = λ i l. w.linked i (omega arith) }

  later : (last more : ℕ) (walk : ℕ → A) → IsWalk Is Linked (last + more) walk → IsWalk Is Linked last (λ i. walk (i + more))
  later last more walk w = record {
    is = λ i l. w.is (i + more) (omega arith);
    linked = λ i l. subst (λ (n : ℕ). Linked (walk (i + more)) (walk n)) (omega arith) (w.linked (i + more) (omega arith));
  }

  NoneBelow : ℕ → Type 0
  NoneBelow bound = (last : ℕ) (walk : ℕ → A) → last < bound → IsWalk Is Linked last walk → Starts (walk 0) → IsBad (walk last) → ⊥

  -- a state that comes twice, with so many steps between
  repeated : (bound last d i : ℕ) (walk : ℕ → A) → NoneBelow bound → 0 < d → last + d < suc bound → i ≤ last → IsWalk Is Linked (last + d) walk → walk i ≡ walk (i + d)
      → Starts (walk 0) → IsBad (walk (last + d)) → ⊥
  unfolding NoneBelow
  repeated bound last d i walk rec some below few w same starts bad =
      rec last (spliced walk i d) (omega arith) (spliced-walk last d i walk w few same)
      (subst Starts (sym (spliced-early walk i d 0 (omega arith))) starts) (subst IsBad (sym (spliced-last last d i walk few same)) bad)

  module _ (m : ℕ) (shut : IsShut Is Starts IsBad Linked m) where
    long-none : (bound more : ℕ) (walk : ℕ → A) → NoneBelow bound → m + more < suc bound → IsWalk Is Linked (m + more) walk → Starts (walk 0) → IsBad (walk (m + more)) → ⊥
    unfolding NoneBelow
    long-none bound more walk rec below w starts bad = shut.long (λ i. walk (i + more)) (later m more walk w)
        (λ i j l k same.
        let last = m + more - (j - i) in let d = j - i in
        let e : last + d ≡ m + more = omega arith in
        let f : j + more ≡ i + more + d = omega arith in
        repeated bound last d (i + more) walk rec (omega arith) (omega arith) (omega arith) (subst (λ (n : ℕ). IsWalk Is Linked n walk) (sym e) w)
        (same ∙ ap walk f) starts (subst (λ (n : ℕ). IsBad (walk n)) (sym e) bad))
        (λ i l here. let e : (i + more) + (m - i) ≡ m + more = omega arith in
        rec (i + more) walk (omega arith) (shorter (i + more) (m - i) walk (subst (λ (n : ℕ). IsWalk Is Linked n walk) (sym e) w)) starts here)
        bad

    none-below : (bound : ℕ) → NoneBelow bound
    unfolding NoneBelow
    none-below zero last walk below w starts bad = omega arith
    none-below (suc bound) last walk below w starts bad = elim (cases_lt last m) [
      | inl l ↦ shut.short last walk l w starts bad
      | inr l ↦ (
          let e : m + (last - m) ≡ last = omega arith in
          long-none bound (last - m) walk (none-below bound) (omega arith) (subst (λ (n : ℕ). IsWalk Is Linked n walk) (sym e) w) starts
          (subst (λ (n : ℕ). IsBad (walk n)) (sym e) bad))
    ]

    pub none-bad : (last : ℕ) (walk : ℕ → A) → IsWalk Is Linked last walk → Starts (walk 0) → IsBad (walk last) → ⊥
    unfolding NoneBelow
    none-bad last walk = none-below (suc last) last walk (omega arith)

    -- a greater window is shut as well
    pub shut-later : (k : ℕ) → m ≤ k → IsShut Is Starts IsBad Linked k
    shut-later k l = record {
      short = λ last walk _. none-bad last walk;
      long = λ walk w different good bad.
          let e : m + (k - m) ≡ k = omega arith in
          shut.long (λ i. walk (i + (k - m))) (later m (k - m) walk (subst (λ (n : ℕ). IsWalk Is Linked n walk) (sym e) w))
          (λ i j u v. different (i + (k - m)) (j + (k - m)) (omega arith) (omega arith))
          (λ i u. good (i + (k - m)) (omega arith))
          (subst (λ (n : ℕ). IsBad (walk n)) (sym e) bad);
    }
