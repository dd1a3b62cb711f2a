-- The trimmed automaton: its values, its numbers, and that each of its obligations is reached.
use Rattle.std.proofs.Common.{◌≡◌, inl, inr, refl, sym, ap, ◌∙◌, subst, ℕ, zero, suc, ◌+◌, ◌≤◌, ◌<◌, Bool as Truth, List, [], ◌∷◌, length, arith}
use Rattle.std.specs.Prelude.{IsTrue, ◌&&◌}
use Rattle.std.proofs.lemmas.Bool.{or_cases, and_parts}
use Rattle.std.proofs.lemmas.List.{length-map}
use Rattle.psl_tree.specs.Followed.{Past, Nothing, Tops, Bottoms}
use Rattle.psl_tree.specs.declared.letter.Letter.{Letter}
use Rattle.alternating_theory.specs.Obligations.{Obligation, obligation_at, value_past, value_of, value_on, IsReached, begun, owed}
use Rattle.alternating_theory.specs.Positive.{owes, OwesWithin}
use Rattle.alternating_theory.specs.Trimmed.{some_below, reached_within, is_reached, count_below, kept, renumbered_obligation, trimmed}
use Rattle.alternating_theory.proofs.Kept.{kept-at, length-kept, count-kept, count-less, kept-origin}
use Rattle.alternating_theory.proofs.MetLaws.{met-renumbered}
use Rattle.alternating_theory.proofs.Reached.{same-number, met-owed, owed-within, owes-renumbered, within-owed, some-found, within-reached, start-reached, reached-closed}
use Rattle.alternating_theory.proofs.Settled.{count-at_most}
use Rattle.alternating_theory.proofs.Values.{at-map}

-- the last obligation is the start, and no obligation owes it
module _ (os : List Obligation) (start : ℕ) (last : length os ≡ start + 1)
    (below : (q : ℕ) → q < length os → OwesWithin 0 start (obligation_at os q).delta) where
  abbrev keep : ℕ → Truth
  keep = is_reached os start

  abbrev new : ℕ → ℕ
  new = λ number. count_below number (is_reached os start)

  abbrev after : ℕ → Obligation
  after = obligation_at (trimmed os start).obligations

  pub new-count : length (trimmed os start).obligations ≡ count_below (length os) (is_reached os start)
  new-count = length-map (kept keep os) (λ obligation. renumbered_obligation new obligation) ∙ length-kept keep os

  new-below : (q : ℕ) → q < length os → IsTrue (keep q) → new q < length (kept keep os)
  new-below q l h = let e = count-less q (length os) keep l h in omega (arith, e, length-kept keep os)

  pub after-new : (q : ℕ) → q < length os → IsTrue (is_reached os start q) → after (new q) ≡ renumbered_obligation new (obligation_at os q)
  after-new q l h =
      at-map (λ obligation. renumbered_obligation new obligation) (kept keep os) (new q) (new-below q l h)
      ∙ ap (λ (o : Obligation). renumbered_obligation new o) (kept-at keep os q l h)

  past-renumbered : (p : Past) (o : Obligation) → value_past p (renumbered_obligation new o) ≡ value_past p o
  past-renumbered Nothing o = refl
  past-renumbered Tops o = refl
  past-renumbered Bottoms o = refl

  pub owed-kept : (q r : ℕ) → q < length os → IsTrue (keep q) → IsTrue (owes (obligation_at os q).delta r) → (r < start) × IsTrue (keep r)
  owed-kept q r l h o =
      let w = owed-within 0 start (obligation_at os q).delta (below q l) r o in
      (w.1, reached-closed os start q r l (omega (arith, w.1)) h o)

  same-value : (p : Past) (xs : List Letter) (q : ℕ) → q < length os → IsTrue (keep q) → value_of after p (after (new q)) xs ≡ value_of (obligation_at os) p (obligation_at os q) xs
  same-value p [] q l h = ap (λ (o : Obligation). value_past p o) (after-new q l h) ∙ past-renumbered p (obligation_at os q)
  same-value p (x ∷ xs) q l h =
      ap (λ (o : Obligation). value_of after p o (x ∷ xs)) (after-new q l h)
      ∙ met-renumbered new (obligation_at os q).delta x (λ n. value_of after p (after n) xs)
      ∙ met-owed (obligation_at os q).delta x (λ n. value_of after p (after (new n)) xs) (λ n. value_of (obligation_at os) p (obligation_at os n) xs)
      (λ r o. let k = owed-kept q r l h o in same-value p xs r (omega (arith, k.0)) k.1)

  pub start-kept : IsTrue (keep start)
  start-kept = start-reached os start

  pub trimmed-value : (p : Past) (xs : List Letter) → value_on (trimmed os start) p xs ≡ value_of (obligation_at os) p (obligation_at os start) xs
  trimmed-value p xs = same-value p xs start (omega arith) start-kept

  pub trimmed-last : length (trimmed os start).obligations ≡ (trimmed os start).start + 1
  trimmed-last =
      let e : length os ≡ suc start = omega arith in
      new-count ∙ ap (λ n. count_below n keep) e ∙ count-kept start keep start-kept

  pub trimmed-fewer : length (trimmed os start).obligations ≤ length os
  trimmed-fewer = omega (arith, new-count, count-at_most (length os) keep)

  pub origin : (q : ℕ) → q < length (trimmed os start).obligations → (j : ℕ) × (j < length os) × IsTrue (keep j) × (q ≡ new j)
  origin q l = kept-origin keep os q (omega (arith, length-map (kept keep os) (λ (obligation : Obligation). renumbered_obligation new obligation)))

  -- no obligation owes the start or a number past it
  pub trimmed-below : (q : ℕ) → q < length (trimmed os start).obligations → OwesWithin 0 (trimmed os start).start (after q).delta
  trimmed-below q l =
      let j = origin q l in
      subst (λ (n : ℕ). OwesWithin 0 (trimmed os start).start (after n).delta) (sym j.3)
      (subst (λ (o : Obligation). OwesWithin 0 (trimmed os start).start o.delta) (sym (after-new j.0 j.1 j.2))
      (within-owed 0 (trimmed os start).start new (obligation_at os j.0).delta
      (λ r o. let k = owed-kept j.0 r j.1 j.2 o in (omega arith, count-less r start keep k.0 k.1))))

  reaches : (k : ℕ) → k ≤ length os → (q : ℕ) → q < length os → IsTrue (reached_within k os start q) → IsReached (trimmed os start) (new q)
  reaches zero m q l h = begun (ap new (sym (same-number start q h)))
  reaches (suc k) m q l h =
      elim (or_cases (reached_within k os start q) (some_below (length os) (λ by. reached_within k os start by && owes (obligation_at os by).delta q)) h)
      as (λ _. IsReached (trimmed os start) (new q)) [
        | inl a ↦ reaches k (omega arith) q l a
        | inr a ↦ (let by = some-found (length os) (λ by. reached_within k os start by && owes (obligation_at os by).delta q) a in
            let parts = and_parts (reached_within k os start by.0) (owes (obligation_at os by.0).delta q) by.2 in
            let there : IsTrue (keep by.0) = within-reached os start k by.0 (omega arith) parts.0 in
            owed (new by.0) (reaches k (omega arith) by.0 by.1 parts.0)
            (subst (λ (o : Obligation). IsTrue (owes o.delta (new q))) (sym (after-new by.0 by.1 there)) (owes-renumbered new (obligation_at os by.0).delta q parts.1)))
      ]

  pub trimmed-reached : (q : ℕ) → q < length (trimmed os start).obligations → IsReached (trimmed os start) q
  trimmed-reached q l =
      let j = origin q l in
      subst (λ (n : ℕ). IsReached (trimmed os start) n) (sym j.3) (reaches (length os) (omega arith) j.0 j.1 j.2)
