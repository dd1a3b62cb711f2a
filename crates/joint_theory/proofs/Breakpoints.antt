-- The joint states along a word that an automaton accepts. What is owed has an entry and is asked for by what is owed
-- before it: of an acceptance, what is so asked for is one. What is pending is what is owed, is not accepting, has a rank
-- below a bound, and is asked for by what was pending, if something was; the bound falls at each place until nothing is
-- pending, and then begins anew.
use Rattle.std.proofs.Common.{◌≡◌, inl, inr, refl, sym, ap, ◌∙◌, subst, ℕ, zero, suc, ◌-◌, ◌*◌, ◌≤◌, ◌<◌, min, Bool as Truth, true, false, not, ◌&&◌, ◌||◌, List, [], ◌∷◌, length, Option, None, Some, arith}
use Rattle.std.specs.Prelude.{IsTrue, is_some, ◌==◌, All, IfSome, filter, if◌then◌else◌, slice_index}
use Rattle.std.specs.List.{range_with_len}
use Rattle.std.specs.List.Sorted.{IsStrictlyIncreasing}
use Rattle.std.proofs.lemmas.Bool.{cases_Bool, cases_eq, both_ways, and_parts, and_from, or_left, or_right, not-true, lt-ltb, ltb-true, eq-eqb, ne_eqb}
use Rattle.std.proofs.lemmas.List.Elements.{All-nil, All-cons, All-weaker, filter_passes}
use Rattle.std.proofs.lemmas.List.Kept.{IsStrictlyIncreasing-filter}
use Rattle.psl_tree.specs.declared.letter.Letter.{Letter}
use Rattle.alternating_theory.specs.Obligations.{Automaton}
use Rattle.alternating_theory.specs.Positive.{met}
use Rattle.alternating_theory.specs.Acceptance.{serves, IsRun}
use Rattle.netlist.specs.Design.{Design}
use Rattle.netlist.specs.Valuations.{IsValuation, IsInitial as IsInitialValuation, IsStep}
use Rattle.run_terms.specs.Letters.{letter_after}
use Rattle.joint_theory.specs.States.{is_listed, is_accepting, is_asked, delta_of, not_accepting, may_meet, letter_in, AreAsked, AreMet, IsState, IsInitial, IsBad, AreNeighbours}
use Rattle.joint_theory.specs.declared.path.JointState.{JointState}
use Rattle.joint_theory.proofs.Asked.{asked-by}
use Rattle.joint_theory.proofs.Closed.{IsJointWalk}
use Rattle.joint_theory.proofs.Guards.{met-asked}
use Rattle.joint_theory.proofs.Numbers.{at-listed, from-listed, rising-filter, rising-one, listed-range, listed-filter, filter-same, among-filter}

some-of : (o : Option ℕ) → IsTrue (is_some o) → (k : ℕ) × (o ≡ Some k)
some-of None h = absurd (both_ways false refl h)
some-of (Some k) h = (k, refl)

some-is : (o : Option ℕ) (k : ℕ) → o ≡ Some k → IsTrue (is_some o)
some-is o k e = ap (λ (p : Option ℕ). is_some p) e

serves-some : (o : Option ℕ) (accepting : Truth) (rank : ℕ) → IsTrue (serves o accepting rank) → IsTrue (is_some o)
serves-some None accepting rank h = h
serves-some (Some j) accepting rank h = refl

serves-below : (o : Option ℕ) (rank bound : ℕ) → o ≡ Some rank → IsTrue (serves o false bound) → rank < bound
serves-below o rank bound e h = ltb-true rank bound (subst (λ (p : Option ℕ). IsTrue (serves p false bound)) e h)

-- what serves a rank below a bound is accepting, or serves the bound less one
serves-less : (o : Option ℕ) (accepting : Truth) (rank bound : ℕ) → rank < bound → IsTrue (serves o accepting rank) → IsTrue (accepting || (not accepting && serves o false (bound - 1)))
serves-less None true rank bound below h = refl
serves-less None false rank bound below h = absurd (both_ways false refl h)
serves-less (Some j) true rank bound below h = refl
serves-less (Some j) false rank bound below h = lt-ltb j (bound - 1) (omega (arith, ltb-true j rank h))

-- what is accepting or listed among what is not accepting
may-be : (accepting served allowed listed : Truth) → IsTrue listed → IsTrue allowed → IsTrue (accepting || (not accepting && served))
    → IsTrue (listed && (accepting || (listed && ((not accepting && served) && allowed))))
may-be true served allowed true l a h = refl
may-be false true true true l a h = refl
may-be false false allowed true l a h = h
may-be accepting served false listed l a h = absurd (both_ways false refl a)
may-be accepting served allowed false l a h = absurd (both_ways false refl l)

module _ (design : Design) (automaton : Automaton) (visits count : ℕ) (letter : ℕ → Letter) (next : ℕ → ℕ) (entry : ℕ → ℕ → Option ℕ)
    (run : IsRun automaton count letter next entry) (valuation : ℕ → List Truth) (before : ℕ → Option (List Truth))
    (some : 0 < count) (stays : (place : ℕ) → place < count → next place < count)
    (letters : (place : ℕ) → place < count → letter place ≡ letter_after design.names (before place) (valuation place))
    (steps : (place : ℕ) → place < count → IsStep design (valuation place) (valuation (next place)))
    (befores : (place : ℕ) → place < count → before (next place) ≡ Some (valuation place))
    (first : IsInitialValuation design (valuation 0)) (none : before 0 ≡ None) where
  abbrev many : ℕ
  many = length automaton.obligations

  abbrev highest : ℕ
  highest = count * many

  abbrev place_at : ℕ → ℕ
  place_at zero = 0
  place_at (suc time) = next (place_at time)

  place-below : (time : ℕ) → place_at time < count
  place-below zero = some
  place-below (suc time) = stays (place_at time) (place-below time)

  -- what is owed: the start alone, and later what has an entry and is asked for
  abbrev has_entry : ℕ → ℕ → Truth
  has_entry place number = is_some (entry place number)

  abbrev is_owed : Letter → List ℕ → ℕ → ℕ → Truth
  is_owed x owed place number = has_entry place number && is_asked automaton x owed number

  abbrev owed_at : ℕ → List ℕ
  owed_at zero = automaton.start ∷ []
  owed_at (suc time) = filter (is_owed (letter (place_at time)) (owed_at time) (place_at (suc time))) (range_with_len 0 many)

  -- what is pending, of what may be so
  abbrev is_pending : (ℕ → Truth) → ℕ → ℕ → ℕ → Truth
  is_pending allowed place bound number = (not (is_accepting automaton number) && serves (entry place number) false bound) && allowed number

  abbrev pending_below : (ℕ → Truth) → ℕ → ℕ → List ℕ
  pending_below allowed time bound = filter (is_pending allowed (place_at time) bound) (owed_at time)

  -- all may be pending where nothing was, and what is asked for where something was
  abbrev may_stay : Letter → List ℕ → ℕ → Truth
  may_stay x pending number = (length pending == 0) || is_asked automaton x pending number

  -- what may be pending, and the bound of the ranks
  abbrev course_at : ℕ → (ℕ → Truth) × ℕ
  course_at zero = (λ number. true, highest)
  course_at (suc time) = (
    may_stay (letter (place_at time)) (pending_below (course_at time).0 time (course_at time).1),
    if length (pending_below (course_at time).0 time (course_at time).1) == 0 then highest else (course_at time).1 - 1,
  )

  abbrev allowed_at : ℕ → ℕ → Truth
  allowed_at time = (course_at time).0

  abbrev bound_at : ℕ → ℕ
  bound_at time = (course_at time).1

  abbrev pending_at : ℕ → List ℕ
  pending_at time = pending_below (allowed_at time) time (bound_at time)

  abbrev count_at : ℕ → ℕ
  count_at zero = 0
  count_at (suc time) = if length (pending_at time) == 0 then min (suc (count_at time)) (suc visits) else count_at time

  abbrev pub state_at : ℕ → JointState
  state_at time = record {
    before = before (place_at time);
    valuation = valuation (place_at time);
    owed = owed_at time;
    pending = pending_at time;
    count = count_at time;
  }

  -- where nothing is pending, and where something is
  bound-anew : (time : ℕ) → length (pending_at time) ≡ 0 → bound_at (suc time) ≡ highest
  bound-anew time e = ap (λ (t : Truth). if t then highest else bound_at time - 1) (eq-eqb (length (pending_at time)) 0 e)

  bound-falls : (time : ℕ) → 0 < length (pending_at time) → bound_at (suc time) ≡ bound_at time - 1
  bound-falls time l = ap (λ (t : Truth). if t then highest else bound_at time - 1) (ne_eqb (length (pending_at time)) 0 (λ e. omega (arith, e)))

  count-anew : (time : ℕ) → length (pending_at time) ≡ 0 → count_at (suc time) ≡ min (suc (count_at time)) (suc visits)
  count-anew time e = ap (λ (t : Truth). if t then min (suc (count_at time)) (suc visits) else count_at time) (eq-eqb (length (pending_at time)) 0 e)

  count-stays : (time : ℕ) → 0 < length (pending_at time) → count_at (suc time) ≡ count_at time
  count-stays time l =
      ap (λ (t : Truth). if t then min (suc (count_at time)) (suc visits) else count_at time) (ne_eqb (length (pending_at time)) 0 (λ e. omega (arith, e)))

  -- what is owed has an entry, and later all of these that are asked for

  entry-number : (place number : ℕ) → IsTrue (has_entry place number) → number < many
  entry-number place number h = let k = some-of (entry place number) h in (run.within place number k.0 k.1).1

  abbrev HasEntry : ℕ → ℕ → Type 0
  HasEntry time number = IsTrue (has_entry (place_at time) number)

  owed-passes : (time : ℕ) → All (λ number. is_owed (letter (place_at time)) (owed_at time) (place_at (suc time)) number ≡ true) (owed_at (suc time))
  owed-passes time = filter_passes (is_owed (letter (place_at time)) (owed_at time) (place_at (suc time))) (range_with_len 0 many)

  owed-entries : (time : ℕ) → All (HasEntry time) (owed_at time)
  owed-entries zero = All-cons (HasEntry 0) automaton.start [] run.begins (All-nil (HasEntry 0))
  owed-entries (suc time) =
      All-weaker (λ number. is_owed (letter (place_at time)) (owed_at time) (place_at (suc time)) number ≡ true) (HasEntry (suc time))
      (λ number h. (and_parts (has_entry (place_at (suc time)) number) (is_asked automaton (letter (place_at time)) (owed_at time) number) h).0) (owed_at (suc time)) (owed-passes time)

  owed-asked : (time : ℕ) → AreAsked automaton (letter (place_at time)) (owed_at time) (owed_at (suc time))
  owed-asked time =
      All-weaker (λ number. is_owed (letter (place_at time)) (owed_at time) (place_at (suc time)) number ≡ true) (λ number. IsTrue (is_asked automaton (letter (place_at time)) (owed_at time) number))
      (λ number h. (and_parts (has_entry (place_at (suc time)) number) (is_asked automaton (letter (place_at time)) (owed_at time) number) h).1) (owed_at (suc time)) (owed-passes time)

  entries-owed : (time number : ℕ) → IsTrue (is_asked automaton (letter (place_at time)) (owed_at time) number) → IsTrue (has_entry (place_at (suc time)) number) → IsTrue (is_listed (owed_at (suc time)) number)
  entries-owed time number asked h =
      listed-filter (is_owed (letter (place_at time)) (owed_at time) (place_at (suc time))) (range_with_len 0 many) number
      ∙ and_from (is_listed (range_with_len 0 many) number) (is_owed (letter (place_at time)) (owed_at time) (place_at (suc time)) number)
      (listed-range 0 many number (omega arith) (omega (arith, entry-number (place_at (suc time)) number h)))
      (and_from (has_entry (place_at (suc time)) number) (is_asked automaton (letter (place_at time)) (owed_at time) number) h asked)

  -- where all may be pending, below the highest bound that is all that is owed and not accepting
  pending-all : (allowed : ℕ → Truth) → ((number : ℕ) → allowed number ≡ true) → (time : ℕ) → pending_below allowed time highest ≡ not_accepting automaton (owed_at time)
  pending-all allowed always time =
      filter-same (is_pending allowed (place_at time) highest) (λ number. not (is_accepting automaton number)) (owed_at time)
      (All-weaker (HasEntry time) (λ number. is_pending allowed (place_at time) highest number ≡ not (is_accepting automaton number)) each (owed_at time) (owed-entries time))
    where
      each : (number : ℕ) → HasEntry time number → is_pending allowed (place_at time) highest number ≡ not (is_accepting automaton number)
      each number h =
          let k = some-of (entry (place_at time) number) h in
          let low = (run.within (place_at time) number k.0 k.1).2 in
          let e : serves (entry (place_at time) number) false highest ≡ true = ap (λ (o : Option ℕ). serves o false highest) k.1 ∙ lt-ltb k.0 highest low in
          rw (e, always number) (both (not (is_accepting automaton number)))
        where
          both : (t : Truth) → ((t && true) && true) ≡ t
          both true = refl
          both false = refl

  -- joint states

  owed-rises : (time : ℕ) → IsStrictlyIncreasing (owed_at time)
  owed-rises zero = rising-one automaton.start
  owed-rises (suc time) = rising-filter (is_owed (letter (place_at time)) (owed_at time) (place_at (suc time))) many

  before-some : (time : ℕ) → IfSome (before (place_at time)) (IsValuation design)
  before-some zero = subst (λ (o : Option (List Truth)). IfSome o (IsValuation design)) (sym none) tt
  before-some (suc time) =
      subst (λ (o : Option (List Truth)). IfSome o (IsValuation design)) (sym (befores (place_at time) (place-below time))) (steps (place_at time) (place-below time)).before

  count-few : (time : ℕ) → count_at time ≤ suc visits
  count-few zero = omega arith
  count-few (suc time) = elim (cases_eq (length (pending_at time)) 0) [
    | inl e ↦ omega (arith, count-anew time e)
    | inr n ↦ omega (arith, count-stays time (omega (arith, n)), count-few time)
  ]

  abbrev IsPending : ℕ → ℕ → Type 0
  IsPending time number = is_pending (allowed_at time) (place_at time) (bound_at time) number ≡ true

  pending-passes : (time : ℕ) → All (IsPending time) (pending_at time)
  pending-passes time = filter_passes (is_pending (allowed_at time) (place_at time) (bound_at time)) (owed_at time)

  -- it is not accepting, has a rank below the bound, and may be pending
  pending-parts : (time number : ℕ) → IsPending time number
      → (not (is_accepting automaton number) ≡ true) × IsTrue (serves (entry (place_at time) number) false (bound_at time)) × IsTrue (allowed_at time number)
  pending-parts time number h =
      let late = and_parts (not (is_accepting automaton number) && serves (entry (place_at time) number) false (bound_at time)) (allowed_at time number) h in
      let parts = and_parts (not (is_accepting automaton number)) (serves (entry (place_at time) number) false (bound_at time)) late.0 in
      (parts.0, parts.1, late.1)

  put-off : (time number : ℕ) → IsPending time number → is_accepting automaton number ≡ false
  put-off time number h = not-true (is_accepting automaton number) (pending-parts time number h).0

  state-is : (time : ℕ) → IsState design automaton visits (state_at time)
  state-is time = record {
    before = before-some time;
    valuation = (steps (place_at time) (place-below time)).before;
    owed = owed-rises time;
    numbers = All-weaker (HasEntry time) (λ number. number < many) (entry-number (place_at time)) (owed_at time) (owed-entries time);
    pending = IsStrictlyIncreasing-filter (is_pending (allowed_at time) (place_at time) (bound_at time)) (owed_at time) (owed-rises time);
    among = among-filter (is_pending (allowed_at time) (place_at time) (bound_at time)) (owed_at time);
    put_off = All-weaker (IsPending time) (λ number. is_accepting automaton number ≡ false) (put-off time) (pending_at time) (pending-passes time);
    count = count-few time;
  }

  state-initial : IsInitial design automaton (state_at 0)
  state-initial = record { valuation = first; before = none; owed = refl; pending = pending-all (allowed_at 0) (λ number. refl) 0; count = refl }

  -- neighbours

  at-letter : (time number : ℕ) (f : ℕ → Truth) → IsTrue (met (delta_of automaton number) (letter (place_at time)) f) → IsTrue (met (delta_of automaton number) (letter_in design (state_at time)) f)
  at-letter time number f = subst (λ (x : Letter). IsTrue (met (delta_of automaton number) x f)) (letters (place_at time) (place-below time))

  at-asked : (time : ℕ) (numbers asked : List ℕ) → AreAsked automaton (letter (place_at time)) numbers asked → AreAsked automaton (letter_in design (state_at time)) numbers asked
  at-asked time numbers asked = subst (λ (x : Letter). AreAsked automaton x numbers asked) (letters (place_at time) (place-below time))

  -- what is owed is met by what it asks for
  number-met : (time number : ℕ) → IsTrue (is_listed (owed_at time) number) → HasEntry time number
      → IsTrue (met (delta_of automaton number) (letter_in design (state_at time)) (is_listed (owed_at (suc time))))
  number-met time number listed h =
      let k = some-of (entry (place_at time) number) h in
      let place = place_at time in
      at-letter time number (is_listed (owed_at (suc time)))
      (elim (cases_Bool (is_accepting automaton number)) [
        | inl a ↦ met-asked (delta_of automaton number) (letter place) (λ other. is_some (entry (next place) other)) (is_listed (owed_at (suc time)))
            (λ other owed w. entries-owed time other (asked-by automaton (letter (place_at time)) (owed_at time) number other listed owed) w) (run.accepting place number k.0 k.1 a)
        | inr n ↦ met-asked (delta_of automaton number) (letter place) (λ other. serves (entry (next place) other) (is_accepting automaton other) k.0) (is_listed (owed_at (suc time)))
            (λ other owed w. entries-owed time other (asked-by automaton (letter (place_at time)) (owed_at time) number other listed owed)
            (serves-some (entry (next place) other) (is_accepting automaton other) k.0 w)) (run.others place number k.0 k.1 n)
      ])

  owed-met : (time : ℕ) → AreMet automaton (letter_in design (state_at time)) (is_listed (owed_at (suc time))) (owed_at time)
  owed-met time =
      from-listed (λ number. IsTrue (met (delta_of automaton number) (letter_in design (state_at time)) (is_listed (owed_at (suc time))))) (owed_at time)
      (λ number listed. number-met time number listed (at-listed (HasEntry time) (owed_at time) (owed-entries time) number listed))

  -- what serves a rank below the bound may meet what is pending, where that asks for it
  serves-may_meet : (time other rank : ℕ) → 0 < length (pending_at time) → rank < bound_at time → IsTrue (is_asked automaton (letter (place_at time)) (owed_at time) other)
      → IsTrue (is_asked automaton (letter (place_at time)) (pending_at time) other)
      → IsTrue (serves (entry (place_at (suc time)) other) (is_accepting automaton other) rank) → IsTrue (may_meet automaton (state_at (suc time)) other)
  serves-may_meet time other rank some_pending below owed asked h =
      let listed = is_listed (owed_at (suc time)) other in
      let allowed = allowed_at (suc time) other in
      let e : is_listed (pending_at (suc time)) other ≡ (is_listed (owed_at (suc time)) other
      && ((not (is_accepting automaton other) && serves (entry (place_at (suc time)) other) false (bound_at time - 1)) && allowed_at (suc time) other)) =
      listed-filter (is_pending (allowed_at (suc time)) (place_at (suc time)) (bound_at (suc time))) (owed_at (suc time)) other
      ∙ ap (λ (bound : ℕ). is_listed (owed_at (suc time)) other && is_pending (allowed_at (suc time)) (place_at (suc time)) bound other) (bound-falls time some_pending) in
      subst (λ (t : Truth). IsTrue (is_listed (owed_at (suc time)) other && (is_accepting automaton other || t))) (sym e)
      (may-be (is_accepting automaton other) (serves (entry (place_at (suc time)) other) false (bound_at time - 1)) (allowed_at (suc time) other) (is_listed (owed_at (suc time)) other)
      (entries-owed time other owed (serves-some (entry (place_at (suc time)) other) (is_accepting automaton other) rank h))
      (or_right (length (pending_at time) == 0) (is_asked automaton (letter (place_at time)) (pending_at time) other) asked)
      (serves-less (entry (place_at (suc time)) other) (is_accepting automaton other) rank (bound_at time) below h))

  pending-met : (time : ℕ) → 0 < length (pending_at time) → AreMet automaton (letter_in design (state_at time)) (may_meet automaton (state_at (suc time))) (pending_at time)
  pending-met time some_pending =
      from-listed (λ number. IsTrue (met (delta_of automaton number) (letter_in design (state_at time)) (may_meet automaton (state_at (suc time))))) (pending_at time)
      (λ number listed. each number listed (at-listed (IsPending time) (pending_at time) (pending-passes time) number listed))
    where
      each : (number : ℕ) → IsTrue (is_listed (pending_at time) number) → IsPending time number
          → IsTrue (met (delta_of automaton number) (letter_in design (state_at time)) (may_meet automaton (state_at (suc time))))
      each number listed h =
          let place = place_at time in
          let served = (pending-parts time number h).1 in
          let k = some-of (entry place number) (serves-some (entry place number) false (bound_at time) served) in
          let below = serves-below (entry place number) k.0 (bound_at time) k.1 served in
          let owed = (and_parts (is_listed (owed_at time) number) (is_pending (allowed_at time) (place_at time) (bound_at time) number)
          (sym (listed-filter (is_pending (allowed_at time) (place_at time) (bound_at time)) (owed_at time) number) ∙ listed)).0 in
          at-letter time number (may_meet automaton (state_at (suc time)))
          (met-asked (delta_of automaton number) (letter place) (λ other. serves (entry (next place) other) (is_accepting automaton other) k.0) (may_meet automaton (state_at (suc time)))
          (λ other by w. serves-may_meet time other k.0 some_pending below (asked-by automaton (letter (place_at time)) (owed_at time) number other owed by)
          (asked-by automaton (letter (place_at time)) (pending_at time) number other listed by) w) (run.others place number k.0 k.1 (put-off time number h)))

  -- where something was pending, it asks for what is pending next
  pending-asked : (time : ℕ) → 0 < length (pending_at time) → AreAsked automaton (letter (place_at time)) (pending_at time) (pending_at (suc time))
  pending-asked time some_pending =
      All-weaker (IsPending (suc time)) (λ number. IsTrue (is_asked automaton (letter (place_at time)) (pending_at time) number))
      (λ number h. sym (ap (λ (t : Truth). t || is_asked automaton (letter (place_at time)) (pending_at time) number) (ne_eqb (length (pending_at time)) 0 (λ e. omega (arith, e))))
      ∙ (pending-parts (suc time) number h).2) (pending_at (suc time)) (pending-passes (suc time))

  neighbours : (time : ℕ) → AreNeighbours design automaton visits (state_at time) (state_at (suc time))
  neighbours time = record {
    step = steps (place_at time) (place-below time);
    before = befores (place_at time) (place-below time);
    owed = owed-met time;
    supported = at-asked time (owed_at time) (owed_at (suc time)) (owed-asked time);
    put_off = λ l. record { met = pending-met time l; supported = at-asked time (pending_at time) (pending_at (suc time)) (pending-asked time l); count = count-stays time l };
    anew = λ e. record {
      pending = ap (pending_below (allowed_at (suc time)) (suc time)) (bound-anew time e)
          ∙ pending-all (allowed_at (suc time)) (λ number. or_left (length (pending_at time) == 0) (is_asked automaton (letter (place_at time)) (pending_at time) number)
          (eq-eqb (length (pending_at time)) 0 e)) (suc time);
      count = count-anew time e;
    };
  }

  -- the count passes any number

  none-pending : (time : ℕ) → bound_at time ≡ 0 → length (pending_at time) ≡ 0
  none-pending time e = elim (cases_eq (length (pending_at time)) 0) [
    | inl n ↦ n
    | inr n ↦ absurd (at (slice_index (pending_at time) 0) (pending-passes time 0 0 (omega (arith, n))))
  ]
    where
      at : (number : ℕ) → IsPending time number → ⊥
      at number h =
          let served = (pending-parts time number h).1 in
          let k = some-of (entry (place_at time) number) (serves-some (entry (place_at time) number) false (bound_at time) served) in
          omega (arith, e, serves-below (entry (place_at time) number) k.0 (bound_at time) k.1 served)

  empties : (low time : ℕ) → bound_at time ≤ low → (later : ℕ) × (length (pending_at later) ≡ 0) × (count_at later ≡ count_at time)
  empties zero time few = (time, none-pending time (omega arith), refl)
  empties (suc low) time few = elim (cases_eq (length (pending_at time)) 0) as (λ _. (later : ℕ) × (length (pending_at later) ≡ 0) × (count_at later ≡ count_at time)) [
    | inl e ↦ (time, e, refl)
    | inr n ↦ (
        let some_pending : 0 < length (pending_at time) = omega (arith, n) in
        let r = empties low (suc time) (omega (arith, bound-falls time some_pending)) in
        (r.0, r.1, r.2 ∙ count-stays time some_pending))
  ]

  reaches : (number : ℕ) → number ≤ suc visits → (time : ℕ) × (number ≤ count_at time)
  reaches zero few = (0, omega arith)
  reaches (suc number) few =
      let r = reaches number (omega arith) in
      let e = empties (bound_at r.0) r.0 (omega arith) in
      (suc e.0, omega (arith, count-anew e.0 e.1, e.2, r.1))

  -- so a joint walk leads from an initial state to a bad one
  pub gets-bad : (last : ℕ) × (walk : ℕ → JointState) × IsJointWalk design automaton visits last walk × IsInitial design automaton (walk 0) × IsBad visits (walk last)
  gets-bad =
      let r = reaches (suc visits) (omega arith) in (
        r.0,
        state_at,
        record { is = λ time _. state-is time; linked = λ time _. neighbours time },
        state-initial,
        r.1,
      )
