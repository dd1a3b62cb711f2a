-- The classes of one pass over the obligations fit, and the duals have the same.
use Rattle.std.proofs.Common.{◌≡◌, ◌⊎◌, inl, inr, refl, sym, ap, ◌∙◌, subst, ℕ, zero, suc, ◌+◌, ◌≤◌, ◌<◌, Bool as Truth, true, false, List, [], ◌∷◌, ◌++◌, length, map, get_or, arith}
use Rattle.std.specs.Prelude.{IsTrue, ◌&&◌, ◌==◌, nat_le, if◌then◌else◌}
use Rattle.std.proofs.lemmas.Bool.{both_ways, and_parts, and_from, eq-eqb, le-leb, cases_lt}
use Rattle.std.proofs.lemmas.List.{length-append}
use mathlib.Core.Path.{fun_ext}
use Rattle.alternating_theory.specs.Construction.{opposite_obligation}
use Rattle.alternating_theory.specs.Dual.{opposite_automaton}
use Rattle.alternating_theory.specs.Laws.{NamesOf}
use Rattle.alternating_theory.specs.Merged.{all_below, fits_at, fits, class_in, first_from, supposed, is_like, classes_upto, merged, merged_by, same_obligation}
use Rattle.alternating_theory.specs.Obligations.{Obligation, Automaton, obligation_at}
use Rattle.alternating_theory.specs.Trimmed.{renumbered_obligation}
use Rattle.alternating_theory.proofs.Duals.{one-renumbered}
use Rattle.alternating_theory.proofs.MergedDuals.{merged_opposite}
use Rattle.alternating_theory.proofs.Merges.{twice}
use Rattle.alternating_theory.proofs.Reached.{same-number}
use Rattle.alternating_theory.proofs.Same.{obligation-renumbered, obligation-self, obligation-turned}
use Rattle.alternating_theory.proofs.Values.{at-map}

-- classes in a list

pub class-left : (xs : List ℕ) (y n d : ℕ) → n < length xs → get_or (xs ++ y ∷ []) n d ≡ get_or xs n d
class-left [] y n d h = absurd (omega arith)
class-left (x ∷ xs) y zero d h = refl
class-left (x ∷ xs) y (suc n) d h = class-left xs y n d (omega arith)

pub class-last : (xs : List ℕ) (y n d : ℕ) → n ≡ length xs → get_or (xs ++ y ∷ []) n d ≡ y
class-last [] y zero d e = refl
class-last [] y (suc n) d e = absurd (omega arith)
class-last (x ∷ xs) y zero d e = absurd (omega arith)
class-last (x ∷ xs) y (suc n) d e = class-last xs y n d (omega arith)

pub class-past : (xs : List ℕ) (n d : ℕ) → length xs ≤ n → get_or xs n d ≡ d
class-past [] n d h = refl
class-past (x ∷ xs) zero d h = absurd (omega arith)
class-past (x ∷ xs) (suc n) d h = class-past xs n d (omega arith)

pub classes-long : (os : List Obligation) (k : ℕ) → length (classes_upto os k) ≡ k
classes-long os zero = refl
classes-long os (suc k) = omega (arith, length-append (classes_upto os k) (first_from 0 k (λ j. is_like os (class_in (classes_upto os k)) j k) ∷ []), classes-long os k)

-- the first number that passes a test

first-bound : (n d : ℕ) (test : ℕ → Truth) → first_from n d test ≤ n + d
first-bound n zero test = omega arith
first-bound n (suc d) test = at (test n) (first-bound (suc n) d test)
  where
    at : (b : Truth) → first_from (suc n) d test ≤ suc n + d → (if b then n else first_from (suc n) d test) ≤ n + suc d
    at true e = omega arith
    at false e = omega (arith, e)

first-passes : (n d : ℕ) (test : ℕ → Truth) → first_from n d test < n + d → IsTrue (test (first_from n d test))
first-passes n zero test h = absurd (omega arith)
first-passes n (suc d) test h = at (test n) refl h (λ k. first-passes (suc n) d test k)
  where
    at : (b : Truth) → test n ≡ b → (if b then n else first_from (suc n) d test) < n + suc d → (first_from (suc n) d test < suc n + d → IsTrue (test (first_from (suc n) d test)))
        → IsTrue (test (if b then n else first_from (suc n) d test))
    at true e k rec = e
    at false e k rec = rec (omega (arith, k))

module _ (os : List Obligation) where
  abbrev class_at : ℕ → ℕ → ℕ
  class_at k = class_in (classes_upto os k)

  abbrev found : ℕ → ℕ
  found k = first_from 0 k (λ j. is_like os (class_in (classes_upto os k)) j k)

  class-before : (k q : ℕ) → q < k → class_at (suc k) q ≡ class_at k q
  class-before k q l = class-left (classes_upto os k) (found k) q q (omega (arith, l, classes-long os k))

  class-new : (k : ℕ) → class_at (suc k) k ≡ found k
  class-new k = class-last (classes_upto os k) (found k) k k (sym (classes-long os k))

  class-none : (k q : ℕ) → k ≤ q → class_at k q ≡ q
  class-none k q l = class-past (classes_upto os k) q q (omega (arith, l, classes-long os k))

  -- of two numbers the obligations ask the same, up to classes
  abbrev Asks : (ℕ → ℕ) → ℕ → ℕ → Type 0
  Asks class i j = IsTrue (same_obligation (renumbered_obligation class (obligation_at os i)) (renumbered_obligation class (obligation_at os j)))

  found-low : (k : ℕ) → found k ≤ k
  found-low k = omega (arith, first-bound 0 k (λ j. is_like os (class_in (classes_upto os k)) j k))

  -- the next classes are made of these
  step : ℕ → ℕ → ℕ
  step k n = if n == k then found k else n

  step-other : (k n : ℕ) → (n ≡ k → ⊥) → step k n ≡ n
  unfolding step
  step-other k n e = at (n == k) refl
    where
      at : (b : Truth) → (n == k) ≡ b → (if b then found k else n) ≡ n
      at true f = absurd (e (same-number n k f))
      at false f = refl

  step-own : (k : ℕ) → step k k ≡ found k
  unfolding step
  step-own k = ap (λ (b : Truth). if b then found k else k) (eq-eqb k k refl)

  record Good (k : ℕ) : Type 0 where
    low : (q : ℕ) → q < k → class_at k q ≤ q
    own : (q : ℕ) → q < k → class_at k (class_at k q) ≡ class_at k q
    asks : (q : ℕ) → q < k → Asks (class_at k) (class_at k q) q

  next-class : (k : ℕ) → Good k → (n : ℕ) → class_at (suc k) n ≡ step k (class_at k n)
  next-class k g n = elim (cases_lt n k) [
    | inl l ↦ class-before k n l ∙ sym (step-other k (class_at k n) (λ e. omega (arith, e, g.low n l)))
    | inr l ↦ elim (cases_lt k n) [
      | inl m ↦ class-none (suc k) n (omega arith) ∙ sym (ap (λ i. step k i) (class-none k n l) ∙ step-other k n (λ e. omega arith))
      | inr m ↦ (let e : n ≡ k = omega arith in ap (λ i. class_at (suc k) i) e ∙ class-new k ∙ sym (ap (λ i. step k i) (class-none k n l ∙ e) ∙ step-own k))
    ]
  ]

  later : (k : ℕ) → Good k → (o : Obligation) → renumbered_obligation (class_at (suc k)) o ≡ renumbered_obligation (step k) (renumbered_obligation (class_at k) o)
  later k g o = ap (λ (f : ℕ → ℕ). renumbered_obligation f o) (fun_ext (next-class k g)) ∙ sym (twice (step k) (class_at k) o)

  asks-later : (k : ℕ) → Good k → (i j : ℕ) → Asks (class_at k) i j → Asks (class_at (suc k)) i j
  asks-later k g i j e =
      subst (λ (o : Obligation). IsTrue (same_obligation o (renumbered_obligation (class_at (suc k)) (obligation_at os j)))) (sym (later k g (obligation_at os i)))
      (subst (λ (o : Obligation). IsTrue (same_obligation (renumbered_obligation (step k) (renumbered_obligation (class_at k) (obligation_at os i))) o)) (sym (later k g (obligation_at os j)))
      (obligation-renumbered (step k) (renumbered_obligation (class_at k) (obligation_at os i)) (renumbered_obligation (class_at k) (obligation_at os j)) e))

  -- what is found stands for itself, and asks the same by the next classes

  found-supposed : (k n : ℕ) → supposed (class_at k) k (found k) n ≡ class_at (suc k) n
  found-supposed k n = at (n == k) refl (cases_lt n k)
    where
      at : (b : Truth) → (n == k) ≡ b → ((n < k) ⊎ (k ≤ n)) → (if b then found k else class_at k n) ≡ class_at (suc k) n
      at true e l = sym (ap (λ i. class_at (suc k) i) (same-number n k e) ∙ class-new k)
      at false e (inl l) = sym (class-before k n l)
      at false e (inr l) =
          let m : suc k ≤ n = omega (arith, beside e l) in class-none k n l ∙ sym (class-none (suc k) n m)
        where
          beside : (n == k) ≡ false → k ≤ n → suc k ≤ n
          beside e l = elim (cases_lt k n) [
            | inl m ↦ omega arith
            | inr m ↦ absurd (both_ways (n == k) e (eq-eqb n k (omega arith)))
          ]

  found-like : (k : ℕ) → found k < k → IsTrue (is_like os (class_at k) (found k) k)
  found-like k l = first-passes 0 k (λ j. is_like os (class_in (classes_upto os k)) j k) (omega arith)

  found-first : (k : ℕ) → found k < k → class_at k (found k) ≡ found k
  found-first k l = same-number (class_at k (found k)) (found k) (and_parts (class_at k (found k) == found k)
      (same_obligation (renumbered_obligation (supposed (class_at k) k (found k)) (obligation_at os (found k))) (renumbered_obligation (supposed (class_at k) k (found k)) (obligation_at os k)))
      (found-like k l)).0

  found-asks : (k : ℕ) → Asks (class_at (suc k)) (found k) k
  found-asks k = elim (cases_lt (found k) k) as (λ _. Asks (class_at (suc k)) (found k) k) [
    | inl l ↦ (subst (λ (class : ℕ → ℕ). Asks class (found k) k) (fun_ext (found-supposed k)) (and_parts (class_at k (found k) == found k)
        (same_obligation (renumbered_obligation (supposed (class_at k) k (found k)) (obligation_at os (found k))) (renumbered_obligation (supposed (class_at k) k (found k)) (obligation_at os k)))
        (found-like k l)).1)
    | inr l ↦ (let e : found k ≡ k = omega (arith, found-low k) in subst (λ (i : ℕ). Asks (class_at (suc k)) i k) (sym e) (obligation-self (renumbered_obligation (class_at (suc k)) (obligation_at os k))))
  ]

  good : (k : ℕ) → Good k
  good zero = record { low = λ q l. absurd (omega arith); own = λ q l. absurd (omega arith); asks = λ q l. absurd (omega arith) }
  good (suc k) = at (good k)
    where
      at : Good k → Good (suc k)
      at g = record {
        low = λ q l. elim (cases_lt q k) [
          | inl m ↦ omega (arith, class-before k q m, g.low q m)
          | inr m ↦ (let e : q ≡ k = omega arith in omega (arith, ap (λ i. class_at (suc k) i) e, class-new k, found-low k))
        ];
        own = λ q l. elim (cases_lt q k) [
          | inl m ↦ ap (λ i. class_at (suc k) i) (class-before k q m) ∙ class-before k (class_at k q) (omega (arith, g.low q m)) ∙ g.own q m ∙ sym (class-before k q m)
          | inr m ↦ (let e : q ≡ k = omega arith in let h = ap (λ i. class_at (suc k) i) e ∙ class-new k in ap (λ i. class_at (suc k) i) h ∙ found-own (cases_lt (found k) k) ∙ sym h)
        ];
        asks = λ q l. elim (cases_lt q k) [
          | inl m ↦ subst (λ (i : ℕ). Asks (class_at (suc k)) i q) (sym (class-before k q m)) (asks-later k g (class_at k q) q (g.asks q m))
          | inr m ↦ (let e : q ≡ k = omega arith in
              subst (λ (i : ℕ). Asks (class_at (suc k)) (class_at (suc k) i) i) (sym e) (subst (λ (i : ℕ). Asks (class_at (suc k)) i k) (sym (class-new k)) (found-asks k)))
        ];
      }
        where
          found-own : ((found k < k) ⊎ (k ≤ found k)) → class_at (suc k) (found k) ≡ found k
          found-own (inl m) = class-before k (found k) m ∙ found-first k m
          found-own (inr m) = let e : found k ≡ k = omega (arith, found-low k) in ap (λ i. class_at (suc k) i) e ∙ class-new k

  pub low-class : (start q : ℕ) → q < start → class_in (classes_upto os start) q ≤ q
  low-class start q l = (good start).low q l

  all-from : (n : ℕ) (test : ℕ → Truth) → ((q : ℕ) → q < n → IsTrue (test q)) → IsTrue (all_below n test)
  all-from zero test f = refl
  all-from (suc n) test f = and_from (test n) (all_below n test) (f n (omega arith)) (all-from n test (λ q l. f q (omega arith)))

  fits-from : (k q : ℕ) → class_at k q ≤ q → class_at k (class_at k q) ≡ class_at k q → Asks (class_at k) (class_at k q) q → IsTrue (fits_at os (class_at k) q)
  fits-from k q low own asks =
      and_from (nat_le (class_at k q) q) ((class_at k (class_at k q) == class_at k q) && same_obligation (renumbered_obligation (class_at k) (obligation_at os (class_at k q))) (renumbered_obligation (class_at k) (obligation_at os q)))
      (le-leb (class_at k q) q low)
      (and_from (class_at k (class_at k q) == class_at k q) (same_obligation (renumbered_obligation (class_at k) (obligation_at os (class_at k q))) (renumbered_obligation (class_at k) (obligation_at os q)))
      (eq-eqb (class_at k (class_at k q)) (class_at k q) own)
      asks)

  pub classes-fit : (start : ℕ) → length os ≡ start + 1 → IsTrue (fits (record { start = start; obligations = os }) (class_in (classes_upto os start)))
  classes-fit start last =
      and_from (class_at start start == start) (all_below (length os) (fits_at os (class_at start))) (eq-eqb (class_at start start) start (class-none start start (omega arith)))
      (all-from (length os) (fits_at os (class_at start)) (λ q l. elim (cases_lt q start) [
        | inl m ↦ (let g = good start in fits-from start q (g.low q m) (g.own q m) (g.asks q m))
        | inr m ↦ (let e = class-none start q m in
            fits-from start q (omega (arith, e)) (ap (λ i. class_at start i) e)
            (subst (λ (i : ℕ). Asks (class_at start) i q) (sym e) (obligation-self (renumbered_obligation (class_at start) (obligation_at os q)))))
      ]))

-- the duals have the same classes

first-same : (n d : ℕ) (f g : ℕ → Truth) → ((q : ℕ) → q < n + d → f q ≡ g q) → first_from n d f ≡ first_from n d g
first-same n zero f g e = refl
first-same n (suc d) f g e =
    ap (λ (b : Truth). if b then n else first_from (suc n) d f) (e n (omega arith))
    ∙ ap (λ i. if g n then n else i) (first-same (suc n) d f g (λ q l. e q (omega arith)))

like-opposite : (os : List Obligation) (class : ℕ → ℕ) (i j : ℕ) → i < length os → j < length os → is_like (map opposite_obligation os) class i j ≡ is_like os class i j
like-opposite os class i j k l = ap (λ (t : Truth). (class i == i) && t)
    (ap (λ (o : Obligation). same_obligation o (renumbered_obligation new (obligation_at (map opposite_obligation os) j))) (turned i k)
    ∙ ap (λ (o : Obligation). same_obligation (opposite_obligation (renumbered_obligation new (obligation_at os i))) o) (turned j l)
    ∙ obligation-turned (renumbered_obligation new (obligation_at os i)) (renumbered_obligation new (obligation_at os j)))
  where
    new : ℕ → ℕ
    new = supposed class j i

    turned : (q : ℕ) → q < length os → renumbered_obligation new (obligation_at (map opposite_obligation os) q) ≡ opposite_obligation (renumbered_obligation new (obligation_at os q))
    turned q h = ap (λ (o : Obligation). renumbered_obligation new o) (at-map opposite_obligation os q h) ∙ one-renumbered new (obligation_at os q)

classes-opposite : (os : List Obligation) (k : ℕ) → k ≤ length os → classes_upto (map opposite_obligation os) k ≡ classes_upto os k
classes-opposite os zero l = refl
classes-opposite os (suc k) l =
    ap (λ (c : List ℕ). c ++ first_from 0 k (λ j. is_like (map opposite_obligation os) (class_in c) j k) ∷ []) (classes-opposite os k (omega arith))
    ∙ ap (λ i. classes_upto os k ++ i ∷ []) (first-same 0 k (λ j. is_like (map opposite_obligation os) (class_in (classes_upto os k)) j k) (λ j. is_like os (class_in (classes_upto os k)) j k)
    (λ q m. like-opposite os (class_in (classes_upto os k)) q k (omega arith) (omega arith)))

pub merge-opposite : (a : Automaton) → length a.obligations ≡ a.start + 1 → merged (opposite_automaton a) ≡ opposite_automaton (merged a)
merge-opposite a last =
    ap (λ (c : List ℕ). merged_by (class_in c) (opposite_automaton a)) (classes-opposite a.obligations a.start (omega arith)) ∙ merged_opposite (class_in (classes_upto a.obligations a.start)) a

-- of automata with right numbers

pub pass_fits : (a : Automaton) → NamesOf a → IsTrue (fits a (class_in (classes_upto a.obligations a.start)))
pass_fits a names = classes-fit a.obligations a.start names.start_last

pub pass_opposite : (a : Automaton) → NamesOf a → merged (opposite_automaton a) ≡ opposite_automaton (merged a)
pass_opposite a names = merge-opposite a names.start_last
