-- The search for what is reached from the start is exact.
use Rattle.std.proofs.Common.{◌≡◌, ◌⊎◌, inl, inr, refl, sym, ap, ◌∙◌, subst, ℕ, zero, suc, ◌+◌, ◌<◌, Bool as Truth, false, List, [], ◌∷◌, ◌++◌, length, replicate, get_or, arith}
use Rattle.std.specs.Prelude.{IsTrue, ◌&&◌}
use Rattle.std.proofs.lemmas.Bool.{or_cases, or_left, or_right, and_parts, both_ways, eq-eqb}
use Rattle.std.specs.List.{AllByRecursion}
use Rattle.std.proofs.lemmas.List.{length-append, length-map}
use Rattle.std.proofs.lemmas.List.Elements.{recursion_from_All}
use Rattle.sere_nfa.specs.Marking as search
use Rattle.sere_nfa.specs.Marking.{is_marked, visit, visit_all}
use Rattle.sere_nfa.proofs.Reach.{Member, Visits, visits-all, EachBelow, work, no-marks}
use Rattle.alternating_theory.specs.Obligations.{Obligation, obligation_at}
use Rattle.alternating_theory.specs.Positive.{Positive, Const, Holds, Owed, And, Or, owes, OwesWithin}
use Rattle.alternating_theory.specs.Trimmed.{some_below, reached_within, is_reached}
use Rattle.alternating_theory.proofs.Aborts.{same-test}
use Rattle.alternating_theory.proofs.Reached.{same-number, some-found, start-reached, reached-closed}
use Rattle.alternating.specs.Search.{owed_in, MarksReached}
use Rattle.alternating.specs.Views.{positive_of, obligation_of, obligations_of_code, ObligationsWithin}
use Rattle.alternating.specs.declared.obligation.Obligation as code_obligation
use Rattle.alternating.proofs.Shown.{shown-obligation}

pub visit_all_append : (m : search.Marking) (ms ns : List ℕ) → visit_all m (ms ++ ns) ≡ visit_all (visit_all m ms) ns
visit_all_append m [] ns = refl
visit_all_append m (n ∷ ms) ns = visit_all_append (visit m n) ms ns

append-there : (q : ℕ) (ms ns : List ℕ) → Member q (ms ++ ns) → Member q ms ⊎ Member q ns
append-there q [] ns h = inr h
append-there q (m ∷ ms) ns (inl e) = inl (inl e)
append-there q (m ∷ ms) ns (inr h) = elim (append-there q ms ns h) as (λ _. Member q (m ∷ ms) ⊎ Member q ns) [ inl k ↦ inl (inr k) | inr k ↦ inr k ]

append-left : (q : ℕ) (ms ns : List ℕ) → Member q ms → Member q (ms ++ ns)
append-left q [] ns h = absurd h
append-left q (m ∷ ms) ns (inl e) = inl e
append-left q (m ∷ ms) ns (inr h) = inr (append-left q ms ns h)

append-right : (q : ℕ) (ms ns : List ℕ) → Member q ns → Member q (ms ++ ns)
append-right q [] ns h = h
append-right q (m ∷ ms) ns h = inr (append-right q ms ns h)

-- the numbers that are listed are those that are owed
listed-owed : (p : Positive) (q : ℕ) → Member q (owed_in p) → IsTrue (owes p q)
listed-owed (Const v) q h = absurd h
listed-owed (Holds b) q h = absurd h
listed-owed (Owed n) q (inl e) = eq-eqb n q (sym e)
listed-owed (Owed n) q (inr h) = absurd h
listed-owed (And p r) q h = elim (append-there q (owed_in p) (owed_in r) h) [
  | inl k ↦ or_left (owes p q) (owes r q) (listed-owed p q k)
  | inr k ↦ or_right (owes p q) (owes r q) (listed-owed r q k)
]
listed-owed (Or p r) q h = elim (append-there q (owed_in p) (owed_in r) h) [
  | inl k ↦ or_left (owes p q) (owes r q) (listed-owed p q k)
  | inr k ↦ or_right (owes p q) (owes r q) (listed-owed r q k)
]

owed-listed : (p : Positive) (q : ℕ) → IsTrue (owes p q) → Member q (owed_in p)
owed-listed (Const v) q h = absurd (both_ways false refl h)
owed-listed (Holds b) q h = absurd (both_ways false refl h)
owed-listed (Owed n) q h = inl (sym (same-number n q h))
owed-listed (And p r) q h = elim (or_cases (owes p q) (owes r q) h) [
  | inl k ↦ append-left q (owed_in p) (owed_in r) (owed-listed p q k)
  | inr k ↦ append-right q (owed_in p) (owed_in r) (owed-listed r q k)
]
owed-listed (Or p r) q h = elim (or_cases (owes p q) (owes r q) h) [
  | inl k ↦ append-left q (owed_in p) (owed_in r) (owed-listed p q k)
  | inr k ↦ append-right q (owed_in p) (owed_in r) (owed-listed r q k)
]

below-append : (high : ℕ) (ms ns : List ℕ) → EachBelow high ms → EachBelow high ns → EachBelow high (ms ++ ns)
below-append high [] ns a b = b
below-append high (m ∷ ms) ns a b = (a.0, below-append high ms ns a.1 b)

owed-below : (low high : ℕ) (p : Positive) → OwesWithin low high p → EachBelow high (owed_in p)
owed-below low high (Const v) w = tt
owed-below low high (Holds b) w = tt
owed-below low high (Owed n) w = (w.1, tt)
owed-below low high (And p r) w = below-append high (owed_in p) (owed_in r) (owed-below low high p w.0) (owed-below low high r w.1)
owed-below low high (Or p r) w = below-append high (owed_in p) (owed_in r) (owed-below low high p w.0) (owed-below low high r w.1)

marked-below : (marks : List Truth) (q : ℕ) → IsTrue (is_marked marks q) → q < length marks
marked-below [] q h = absurd (both_ways false refl h)
marked-below (m ∷ marks) zero h = omega arith
marked-below (m ∷ marks) (suc q) h = let below = marked-below marks q h in omega (arith, below)

length-replicate : (n : ℕ) → length (replicate n false) ≡ n
length-replicate zero = refl
length-replicate (suc n) = ap (λ k. suc k) (length-replicate n)

-- what the search keeps: marked obligations are reached, and what a marked one owes is marked, or the
-- one that owes it waits
pub record IsSearch (os : List Obligation) (start : ℕ) (m : search.Marking) : Type 0 where
  pub same_length : length m.marks ≡ length os
  pub reach : (q : ℕ) → IsTrue (is_marked m.marks q) → IsTrue (is_reached os start q)
  pub closed : (q t : ℕ) → IsTrue (is_marked m.marks q) → IsTrue (owes (obligation_at os q).delta t) → IsTrue (is_marked m.marks t) ⊎ Member q m.waiting
  pub wait_marked : (q : ℕ) → Member q m.waiting → IsTrue (is_marked m.marks q)
  pub begun : IsTrue (is_marked m.marks start)

module _ (os : List Obligation) (start : ℕ) (begins : start < length os)
    (within : (q : ℕ) → q < length os → OwesWithin 0 (length os) (obligation_at os q).delta) where
  abbrev none : search.Marking
  none = record { marks = replicate (length os) false; waiting = [] }

  -- the search begins with the start
  search-start : (m : search.Marking) → Visits (record { marks = replicate (length os) false; waiting = [] }) m (start ∷ []) → IsSearch os start m
  search-start m v = record {
    same_length = v.same_length ∙ length-replicate (length os);
    reach = λ q h. elim (v.marks_only q h) as (λ _. IsTrue (is_reached os start q)) [
      | inl k ↦ absurd (no-marks (length os) q k)
      | inr k ↦ elim k as (λ _. IsTrue (is_reached os start q)) [ inl e ↦ subst (λ (j : ℕ). IsTrue (is_reached os start j)) (sym e) (start-reached os start) | inr z ↦ absurd z ]
    ];
    closed = λ q t h o. elim (v.new_wait q h) as (λ _. IsTrue (is_marked m.marks t) ⊎ Member q m.waiting) [
      | inl k ↦ absurd (no-marks (length os) q k)
      | inr k ↦ inr k
    ];
    wait_marked = λ q h. elim (v.wait_only q h) as (λ _. IsTrue (is_marked m.marks q)) [ inl k ↦ absurd k | inr k ↦ v.marks_all q k ];
    begun = v.marks_all start (inl refl);
  }

  pub begun-search : (n : ℕ) (m : search.Marking) → n ≡ length os → m ≡ visit (record { marks = replicate n false; waiting = [] }) start → IsSearch os start m
  begun-search n m e made =
      let v : Visits none (visit_all none (start ∷ [])) (start ∷ []) = visits-all none (start ∷ []) (omega (arith, length-replicate (length os)), tt) in
      subst (λ (k : search.Marking). IsSearch os start k) (sym (made ∙ ap (λ k. visit (record { marks = replicate k false; waiting = [] }) start) e))
      (search-start (visit_all none (start ∷ [])) v)

  pub waiting-below : (m : search.Marking) (waiting : List ℕ) (t : ℕ) → IsSearch os start m → m.waiting ≡ waiting ++ t ∷ [] → t < length os
  waiting-below m waiting t s e =
      let marked = s.wait_marked t (subst (λ (l : List ℕ). Member t l) (sym e) (append-right t waiting (t ∷ []) (inl refl))) in
      let below = marked-below m.marks t marked in
      omega (arith, below, s.same_length)

  -- what an obligation that waited owes is visited
  search-step : (m : search.Marking) (waiting : List ℕ) (t : ℕ) (new : search.Marking) → IsSearch os start m → m.waiting ≡ waiting ++ t ∷ []
      → Visits (record { marks = m.marks; waiting = waiting }) new (owed_in (obligation_at os t).delta) → IsSearch os start new
  search-step m waiting t new s e v = record {
    same_length = v.same_length ∙ s.same_length;
    reach = λ q h. elim (v.marks_only q h) as (λ _. IsTrue (is_reached os start q)) [
      | inl k ↦ s.reach q k
      | inr k ↦ reached-closed os start t q (waiting-below m waiting t s e) (small q h) (s.reach t (s.wait_marked t (waited t (inr (inl refl))))) (listed-owed (obligation_at os t).delta q k)
    ];
    closed = λ q j h o. elim (v.new_wait q h) as (λ _. IsTrue (is_marked new.marks j) ⊎ Member q new.waiting) [
      | inl k ↦ elim (s.closed q j k o) as (λ _. IsTrue (is_marked new.marks j) ⊎ Member q new.waiting) [
        | inl g ↦ inl (v.stay j g)
        | inr g ↦ elim (append-there q waiting (t ∷ []) (subst (λ (l : List ℕ). Member q l) e g)) as (λ _. IsTrue (is_marked new.marks j) ⊎ Member q new.waiting) [
          | inl f ↦ inr (v.still_wait q f)
          | inr f ↦ elim f as (λ _. IsTrue (is_marked new.marks j) ⊎ Member q new.waiting) [
            | inl same ↦ inl (v.marks_all j (owed-listed (obligation_at os t).delta j (subst (λ (i : ℕ). IsTrue (owes (obligation_at os i).delta j)) same o)))
            | inr z ↦ absurd z
          ]
        ]
      ]
      | inr k ↦ inr k
    ];
    wait_marked = λ q h. elim (v.wait_only q h) as (λ _. IsTrue (is_marked new.marks q)) [
      | inl k ↦ v.stay q (s.wait_marked q (waited q (inl k)))
      | inr k ↦ v.marks_all q k
    ];
    begun = v.stay start s.begun;
  } where
    waited : (q : ℕ) → Member q waiting ⊎ Member q (t ∷ []) → Member q m.waiting
    waited q (inl h) = subst (λ (l : List ℕ). Member q l) (sym e) (append-left q waiting (t ∷ []) h)
    waited q (inr h) = subst (λ (l : List ℕ). Member q l) (sym e) (append-right q waiting (t ∷ []) h)

    small : (q : ℕ) → IsTrue (is_marked new.marks q) → q < length os
    small q h = let b = marked-below new.marks q h in omega (arith, b, v.same_length, s.same_length)

  -- the search goes on, with less to do
  pub more-search : (m : search.Marking) (waiting : List ℕ) (t : ℕ) (p : Positive) (new : search.Marking) → IsSearch os start m
      → m.waiting ≡ waiting ++ t ∷ [] → p ≡ (obligation_at os t).delta
      → new ≡ visit_all (record { marks = m.marks; waiting = waiting }) (owed_in p)
      → IsSearch os start new × (work new < work m)
  more-search m waiting t p new s e f made =
      let low = waiting-below m waiting t s e in
      let popped : search.Marking = record { marks = m.marks; waiting = waiting } in
      let each : EachBelow (length m.marks) (owed_in (obligation_at os t).delta) =
      subst (λ (k : ℕ). EachBelow k (owed_in (obligation_at os t).delta)) (sym s.same_length) (owed-below 0 (length os) (obligation_at os t).delta (within t low)) in
      let v : Visits popped new (owed_in (obligation_at os t).delta) =
      subst (λ (n : search.Marking). Visits popped n (owed_in (obligation_at os t).delta)) (sym (made ∙ ap (λ (r : Positive). visit_all popped (owed_in r)) f))
      (visits-all popped (owed_in (obligation_at os t).delta) each) in
      let longer : length m.waiting ≡ length waiting + 1 = ap (λ (l : List ℕ). length l) e ∙ length-append waiting (t ∷ []) in
      (search-step m waiting t new s e v, omega (arith, v.same_work, longer))

  -- once none waits, the marks are exact
  pub ended-search : (m : search.Marking) → IsSearch os start m → m.waiting ≡ [] → MarksReached os start m.marks
  ended-search m s e = record {
    same_length = s.same_length;
    exact = λ q h. same-test (is_marked m.marks q) (is_reached os start q) (s.reach q) (all (length os) q);
  } where
    all : (k q : ℕ) → IsTrue (reached_within k os start q) → IsTrue (is_marked m.marks q)
    all zero q h = subst (λ (j : ℕ). IsTrue (is_marked m.marks j)) (same-number start q h) s.begun
    all (suc k) q h =
        elim (or_cases (reached_within k os start q) (some_below (length os) (λ by. reached_within k os start by && owes (obligation_at os by).delta q)) h)
        as (λ _. IsTrue (is_marked m.marks q)) [
          | inl a ↦ all k q a
          | inr a ↦ (let by = some-found (length os) (λ by. reached_within k os start by && owes (obligation_at os by).delta q) a in
              let parts = and_parts (reached_within k os start by.0) (owes (obligation_at os by.0).delta q) by.2 in
              elim (s.closed by.0 q (all k by.0 parts.0) parts.1) as (λ _. IsTrue (is_marked m.marks q)) [
                | inl g ↦ g
                | inr g ↦ absurd (subst (λ (l : List ℕ). Member by.0 l) e g)
              ])
        ]

-- the program's obligations

within-recursion : (low high : ℕ) (os : List code_obligation.Obligation) → AllByRecursion (λ (o : code_obligation.Obligation). OwesWithin low high (positive_of o.delta)) os
    → (q : ℕ) → q < length (obligations_of_code os) → OwesWithin low high (obligation_at (obligations_of_code os) q).delta
within-recursion low high [] w q h = absurd (omega arith)
within-recursion low high (o ∷ os) w zero h = w.0
within-recursion low high (o ∷ os) w (suc q) h = within-recursion low high os w.1 q (omega arith)

pub within-at : (low high : ℕ) (os : List code_obligation.Obligation) → ObligationsWithin low high os
    → (q : ℕ) → q < length (obligations_of_code os) → OwesWithin low high (obligation_at (obligations_of_code os) q).delta
within-at low high os w = within-recursion low high os (recursion_from_All (λ (o : code_obligation.Obligation). OwesWithin low high (positive_of o.delta)) os w)

module _ (os : List code_obligation.Obligation) (start : ℕ) (begins : start < length os) (within : ObligationsWithin 0 (length os) os) where
  as-long : length (obligations_of_code os) ≡ length os
  as-long = length-map os obligation_of

  first : start < length (obligations_of_code os)
  first = omega (arith, as-long)

  each : (q : ℕ) → q < length (obligations_of_code os) → OwesWithin 0 (length (obligations_of_code os)) (obligation_at (obligations_of_code os) q).delta
  each q h = subst (λ (n : ℕ). OwesWithin 0 n (obligation_at (obligations_of_code os) q).delta) (sym as-long) (within-at 0 (length os) os within q h)

  pub begun-code : (m : search.Marking) → m ≡ visit (record { marks = replicate (length os) false; waiting = [] }) start → IsSearch (obligations_of_code os) start m
  begun-code m made = begun-search (obligations_of_code os) start first each (length os) m (sym as-long) made

  pub below-code : (m : search.Marking) (waiting : List ℕ) (t : ℕ) → IsSearch (obligations_of_code os) start m → m.waiting ≡ waiting ++ t ∷ [] → t < length os
  below-code m waiting t s e = let b = waiting-below (obligations_of_code os) start first each m waiting t s e in omega (arith, b, as-long)

  pub owed-code : (m : search.Marking) (waiting : List ℕ) (t : ℕ) (o : code_obligation.Obligation) → IsSearch (obligations_of_code os) start m → m.waiting ≡ waiting ++ t ∷ []
      → o ≡ get_or os t o → OwesWithin 0 (length m.marks) (positive_of o.delta)
  owed-code m waiting t o s e is =
      let long : length os ≡ length m.marks = sym (s.same_length ∙ as-long) in
      subst (λ (n : ℕ). OwesWithin 0 n (positive_of o.delta)) long
      (subst (λ (p : code_obligation.Obligation). OwesWithin 0 (length os) (positive_of p.delta)) (sym is) (within t o (below-code m waiting t s e)))

  pub more-code : (m : search.Marking) (waiting : List ℕ) (t : ℕ) (o : code_obligation.Obligation) (new : search.Marking) → IsSearch (obligations_of_code os) start m
      → m.waiting ≡ waiting ++ t ∷ [] → o ≡ get_or os t o → new ≡ visit_all (record { marks = m.marks; waiting = waiting }) (owed_in (positive_of o.delta))
      → IsSearch (obligations_of_code os) start new × (work new < work m)
  more-code m waiting t o new s e is made =
      let low = below-code m waiting t s e in
      more-search (obligations_of_code os) start first each m waiting t (positive_of o.delta) new s e
      (ap (λ (p : code_obligation.Obligation). positive_of p.delta) is ∙ ap (λ (p : Obligation). p.delta) (shown-obligation os t o low)) made

  pub ended-code : (m : search.Marking) → IsSearch (obligations_of_code os) start m → m.waiting ≡ [] → MarksReached (obligations_of_code os) start m.marks
  ended-code m s e = ended-search (obligations_of_code os) start first each m s e
