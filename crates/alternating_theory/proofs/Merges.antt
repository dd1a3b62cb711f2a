-- An automaton merged by classes that fit: its values, its numbers, and that each of its obligations is reached.
use Rattle.std.proofs.Common.{◌≡◌, inl, inr, refl, sym, ap, ◌∙◌, subst, ℕ, zero, suc, ◌+◌, ◌≤◌, ◌<◌, Bool as Truth, true, false, List, [], ◌∷◌, length, arith}
use Rattle.std.specs.Prelude.{IsTrue, ◌&&◌, ◌==◌, nat_le, if◌then◌else◌}
use Rattle.std.proofs.lemmas.Bool.{and_parts, eq-eqb, leb-true, cases_lt}
use Rattle.std.proofs.lemmas.List.{length-map}
use Rattle.psl_tree.specs.Followed.{Past, Nothing, Tops, Bottoms}
use Rattle.psl_tree.specs.declared.letter.Letter.{Letter}
use Rattle.alternating_theory.specs.Laws.{NamesOf, KeepsValues}
use Rattle.alternating_theory.specs.Merged.{all_below, fits_at, fits, is_first, joined, merged_by, same_obligation}
use Rattle.alternating_theory.specs.Obligations.{Obligation, Automaton, obligation_at, value_past, value_of, value_on, IsReached, begun, owed}
use Rattle.alternating_theory.specs.Positive.{Positive, Const, Holds, Owed, And, Or, met, owes, OwesWithin, renumbered}
use Rattle.alternating_theory.specs.Trimmed.{count_below, kept, renumbered_obligation}
use Rattle.alternating_theory.proofs.Kept.{kept-at, length-kept, count-kept, count-less, kept-origin}
use Rattle.alternating_theory.proofs.MetLaws.{met-renumbered}
use Rattle.alternating_theory.proofs.Reached.{same-number, met-owed, owed-within, owes-renumbered, within-owed}
use Rattle.alternating_theory.proofs.Same.{Alike, obligation-alike, obligation-renumbered, positive-met, positive-owes, positive-within}
use Rattle.alternating_theory.proofs.Settled.{count-at_most}
use Rattle.alternating_theory.proofs.Values.{at-map}

all-at : (n : ℕ) (test : ℕ → Truth) → IsTrue (all_below n test) → (q : ℕ) → q < n → IsTrue (test q)
all-at zero test h q l = absurd (omega arith)
all-at (suc n) test h q l =
    let parts = and_parts (test n) (all_below n test) h in
    elim (cases_lt q n) [
      | inl k ↦ all-at n test parts.1 q k
      | inr k ↦ (let e : n ≡ q = omega arith in subst (λ (i : ℕ). IsTrue (test i)) e parts.0)
    ]

renumbered-twice : (f g : ℕ → ℕ) (p : Positive) → renumbered f (renumbered g p) ≡ renumbered (λ n. f (g n)) p
renumbered-twice f g (Const v) = refl
renumbered-twice f g (Holds b) = refl
renumbered-twice f g (Owed n) = refl
renumbered-twice f g (And p r) = let a = renumbered-twice f g p in let b = renumbered-twice f g r in cc
renumbered-twice f g (Or p r) = let a = renumbered-twice f g p in let b = renumbered-twice f g r in cc

with_delta : Obligation → Positive → Obligation
with_delta o d = record { delta = d; accepting = o.accepting; end = o.end; top = o.top; bottom = o.bottom }

pub twice : (f g : ℕ → ℕ) (o : Obligation) → renumbered_obligation f (renumbered_obligation g o) ≡ renumbered_obligation (λ n. f (g n)) o
unfolding with_delta
twice f g o = ap (λ (d : Positive). with_delta o d) (renumbered-twice f g o.delta)

past-renumbered : (new : ℕ → ℕ) (p : Past) (o : Obligation) → value_past p (renumbered_obligation new o) ≡ value_past p o
past-renumbered new Nothing o = refl
past-renumbered new Tops o = refl
past-renumbered new Bottoms o = refl

past-alike : (p : Past) (o other : Obligation) → Alike o other → value_past p o ≡ value_past p other
past-alike Nothing o other h = h.end
past-alike Tops o other h = h.top
past-alike Bottoms o other h = h.bottom

module _ (a : Automaton) (class : ℕ → ℕ) (fit : IsTrue (fits a class)) (names : NamesOf a) where
  abbrev os : List Obligation
  os = a.obligations

  abbrev first : ℕ → Truth
  first = is_first class

  abbrev pub new_number : ℕ → ℕ
  new_number n = count_below (class n) (is_first class)

  abbrev after : ℕ → Obligation
  after = obligation_at (joined a class).obligations

  start-below : a.start < length os
  start-below = omega (arith, names.start_last)

  start-class : class a.start ≡ a.start
  start-class = same-number (class a.start) a.start (and_parts (class a.start == a.start) (all_below (length os) (fits_at os class)) fit).0

  -- what the test says of each number
  low : (q : ℕ) → q < length os → class q ≤ q
  low q l = leb-true (class q) q
      (and_parts (nat_le (class q) q) ((class (class q) == class q) && same_obligation (renumbered_obligation class (obligation_at os (class q))) (renumbered_obligation class (obligation_at os q)))
      (all-at (length os) (fits_at os class) (and_parts (class a.start == a.start) (all_below (length os) (fits_at os class)) fit).1 q l)).0

  rest : (q : ℕ) → q < length os → IsTrue ((class (class q) == class q) && same_obligation (renumbered_obligation class (obligation_at os (class q))) (renumbered_obligation class (obligation_at os q)))
  rest q l = (and_parts (nat_le (class q) q) ((class (class q) == class q) && same_obligation (renumbered_obligation class (obligation_at os (class q))) (renumbered_obligation class (obligation_at os q)))
      (all-at (length os) (fits_at os class) (and_parts (class a.start == a.start) (all_below (length os) (fits_at os class)) fit).1 q l)).1

  class-first : (q : ℕ) → q < length os → IsTrue (first (class q))
  class-first q l = (and_parts (class (class q) == class q) (same_obligation (renumbered_obligation class (obligation_at os (class q))) (renumbered_obligation class (obligation_at os q))) (rest q l)).0

  asks-same : (q : ℕ) → q < length os → IsTrue (same_obligation (renumbered_obligation class (obligation_at os (class q))) (renumbered_obligation class (obligation_at os q)))
  asks-same q l = (and_parts (class (class q) == class q) (same_obligation (renumbered_obligation class (obligation_at os (class q))) (renumbered_obligation class (obligation_at os q))) (rest q l)).1

  pub joined-count : length (joined a class).obligations ≡ count_below (length os) (is_first class)
  joined-count = length-map (kept first os) (λ obligation. renumbered_obligation new_number obligation) ∙ length-kept first os

  pub new-below : (q : ℕ) → q < length os → new_number q < length (joined a class).obligations
  new-below q l = omega (arith, joined-count, count-less (class q) (length os) first (omega (arith, low q l)) (class-first q l))

  -- the obligation of a new number asks what each of its class asks
  joined-same : (q : ℕ) → q < length os → IsTrue (same_obligation (after (new_number q)) (renumbered_obligation new_number (obligation_at os q)))
  joined-same q l =
      subst (λ (o : Obligation). IsTrue (same_obligation o (renumbered_obligation new_number (obligation_at os q)))) (sym first-new)
      (subst (λ (o : Obligation). IsTrue (same_obligation (renumbered_obligation (λ n. count_below n first) (renumbered_obligation class (obligation_at os (class q)))) o))
      (twice (λ n. count_below n first) class (obligation_at os q))
      (obligation-renumbered (λ n. count_below n first) (renumbered_obligation class (obligation_at os (class q))) (renumbered_obligation class (obligation_at os q)) (asks-same q l)))
    where
      first-new : after (new_number q) ≡ renumbered_obligation (λ n. count_below n first) (renumbered_obligation class (obligation_at os (class q)))
      first-new =
          at-map (λ obligation. renumbered_obligation new_number obligation) (kept first os) (new_number q) (omega (arith, new-below q l, joined-count, length-kept first os))
          ∙ ap (λ (o : Obligation). renumbered_obligation new_number o) (kept-at first os (class q) (omega (arith, low q l)) (class-first q l))
          ∙ sym (twice (λ n. count_below n first) class (obligation_at os (class q)))

  pub joined-new : (q : ℕ) → q < length os → Alike (after (new_number q)) (renumbered_obligation new_number (obligation_at os q))
  joined-new q l = obligation-alike (after (new_number q)) (renumbered_obligation new_number (obligation_at os q)) (joined-same q l)

  -- it is met where the old one is, by the values of the new numbers
  pub joined-met : (q : ℕ) → q < length os → (x : Letter) (f : ℕ → Truth) → met (after (new_number q)).delta x f ≡ met (obligation_at os q).delta x (λ r. f (new_number r))
  joined-met q l x f =
      positive-met (after (new_number q)).delta (renumbered new_number (obligation_at os q).delta) (joined-new q l).delta x f ∙ met-renumbered new_number (obligation_at os q).delta x f

  pub owed-inside : (q r : ℕ) → q < length os → IsTrue (owes (obligation_at os q).delta r) → r < a.start
  owed-inside q r l o = (owed-within 0 a.start (obligation_at os q).delta (names.owed_below q l) r o).1

  same-value : (p : Past) (xs : List Letter) (q : ℕ) → q < length os → value_of after p (after (new_number q)) xs ≡ value_of (obligation_at os) p (obligation_at os q) xs
  same-value p [] q l = past-alike p (after (new_number q)) (renumbered_obligation new_number (obligation_at os q)) (joined-new q l) ∙ past-renumbered new_number p (obligation_at os q)
  same-value p (x ∷ xs) q l =
      joined-met q l x (λ n. value_of after p (after n) xs)
      ∙ met-owed (obligation_at os q).delta x (λ n. value_of after p (after (new_number n)) xs) (λ n. value_of (obligation_at os) p (obligation_at os n) xs)
      (λ r o. same-value p xs r (omega (arith, owed-inside q r l o, names.start_last)))

  pub new-start : new_number a.start ≡ (joined a class).start
  new-start = ap (λ n. count_below n first) start-class

  start-first : IsTrue (first a.start)
  start-first = eq-eqb (class a.start) a.start start-class

  joined-value : (p : Past) (xs : List Letter) → value_on (joined a class) p xs ≡ value_on a p xs
  joined-value p xs = ap (λ n. value_of after p (after n) xs) (sym new-start) ∙ same-value p xs a.start start-below

  joined-last : length (joined a class).obligations ≡ (joined a class).start + 1
  joined-last =
      let e : length os ≡ suc a.start = omega (arith, names.start_last) in
      joined-count ∙ ap (λ n. count_below n first) e ∙ count-kept a.start first start-first

  pub joined-fewer : length (joined a class).obligations ≤ length os
  joined-fewer = omega (arith, joined-count, count-at_most (length os) first)

  -- each number is the new number of a first one
  pub joined-origin : (q : ℕ) → q < length (joined a class).obligations → (j : ℕ) × (j < length os) × (q ≡ new_number j)
  joined-origin q l =
      let o = kept-origin first os q (omega (arith, length-map (kept first os) (λ (obligation : Obligation). renumbered_obligation new_number obligation))) in
      (o.0, o.1, o.3 ∙ ap (λ n. count_below n first) (sym (same-number (class o.0) o.0 o.2)))

  joined-below : (q : ℕ) → q < length (joined a class).obligations → OwesWithin 0 (joined a class).start (after q).delta
  joined-below q l =
      let j = joined-origin q l in
      subst (λ (n : ℕ). OwesWithin 0 (joined a class).start (after n).delta) (sym j.2)
      (positive-within 0 (joined a class).start (after (new_number j.0)).delta (renumbered new_number (obligation_at os j.0).delta) (joined-new j.0 j.1).delta
      (within-owed 0 (joined a class).start new_number (obligation_at os j.0).delta
      (λ r o. (let k = owed-inside j.0 r j.1 o in let m : r < length os = omega (arith, k, names.start_last) in
      (omega arith, count-less (class r) a.start first (omega (arith, k, low r m)) (class-first r m))))))

  reached-below : (q : ℕ) → IsReached a q → q < length os
  reached-below q (begun e) = subst (λ (n : ℕ). n < length os) (sym e) start-below
  reached-below q (owed by r o) = omega (arith, owed-inside by q (reached-below by r) o, names.start_last)

  reaches : (q : ℕ) → IsReached a q → IsReached (joined a class) (new_number q)
  reaches q (begun e) = begun (ap new_number e ∙ new-start)
  reaches q (owed by r o) = owed (new_number by) (reaches by r)
      (positive-owes (after (new_number by)).delta (renumbered new_number (obligation_at os by).delta) (joined-new by (reached-below by r)).delta (new_number q)
      ∙ owes-renumbered new_number (obligation_at os by).delta q o)

  joined-reached : (q : ℕ) → q < length (joined a class).obligations → IsReached (joined a class) q
  joined-reached q l = let j = joined-origin q l in subst (λ (n : ℕ). IsReached (joined a class) n) (sym j.2) (reaches j.0 (names.all_reached j.0 j.1))

  joined-keeps : KeepsValues a (joined a class)
  joined-keeps = record {
    values = joined-value;
    names = record { start_last = joined-last; owed_below = joined-below; all_reached = joined-reached };
    fewer = joined-fewer;
  }

pub merging_keeps : (a : Automaton) → NamesOf a → (class : ℕ → ℕ) → KeepsValues a (merged_by class a)
merging_keeps a names class = at (fits a class) refl
  where
    at : (b : Truth) → fits a class ≡ b → KeepsValues a (if b then joined a class else a)
    at true e = joined-keeps a class e names
    at false e = record { values = λ p xs. refl; names = names; fewer = omega arith }
