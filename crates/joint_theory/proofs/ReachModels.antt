-- The values of the state bits in the models of the queries of reachability are the bits of the states and pairs that
-- these name.
use Rattle.std.proofs.Common.{◌≡◌, inl, inr, refl, sym, ap, ◌∙◌, ℕ, ◌+◌, ℤ, neg_ℤ, Bool as Truth, true, false, not, ◌&&◌, ◌||◌, List, [], ◌∷◌, ◌++◌, map, arith}
use Rattle.std.specs.Prelude.{IsTrue}
use Rattle.std.specs.List.{list_all, range_with_len}
use Rattle.std.proofs.lemmas.Bool.{and_parts, both_ways, not-true, not_from_false, or_cases, or_left}
use Rattle.alternating_theory.specs.Obligations.{Automaton}
use Rattle.clauses.specs.Literals.{clause_within, clauses_within, is_within}
use Rattle.clauses.specs.Models.{Assignment, IsModel, is_true, meets}
use Rattle.gates_theory.specs.Circuits.{AreSame}
use Rattle.gates_theory.specs.Unrolled.{units}
use Rattle.gates_theory.proofs.Agreement.{same-all, same-fewer, same-met, same-shifted, same-then}
use Rattle.gates_theory.proofs.Literals.{shifted, true-neg, within_is}
use Rattle.gates_theory.proofs.Parts.{units-met}
use Rattle.joint_selectors.specs.Missed.{values_from}
use Rattle.joint_selectors.proofs.Models.{missed-extends, missed-model}
use Rattle.netlist.specs.Design.{Design}
use Rattle.netlist.specs.Sound as netlists
use Rattle.run_terms.specs.Automata as automata
use Rattle.run_terms.specs.Automata.{TestsSignals}
use Rattle.run_terms.specs.Formulas.{values_of, whole}
use Rattle.joint_theory.specs.Bits.{bad_bit, joint_width, state_in, AreBits}
use Rattle.joint_theory.specs.Queries.{start_literals}
use Rattle.joint_theory.specs.Reaching.{bad_variables, initial_variables, one_size, one_state, query_bad, query_initial, query_relative, query_step, relative_variables, start_units, step_variables, two_size, two_states, EntersBy, LeavesBy, MeetsBadly, MissesInitially, StandsForOne, StandsForTwo}
use Rattle.joint_theory.specs.Sets.{bits_of, is_in_cube, is_met}
use Rattle.joint_theory.specs.States.{IsInitial, IsState}
use Rattle.joint_theory.specs.declared.path.JointState.{JointState}
use Rattle.joint_theory.proofs.Clauses.{first-length, first-model}
use Rattle.joint_theory.proofs.OwnBits.{are-bits, at-none, bits-are, from-none}
use Rattle.joint_theory.proofs.Pairs.{one-reads, one-writes, two-reads, two-writes}
use Rattle.joint_theory.proofs.Parts.{append-from, append-parts, one-from, one-part}
use Rattle.joint_theory.proofs.PathReads.{bad-from, bad-says}
use Rattle.joint_theory.proofs.ReachWithin.{bad-query_within, initial-front, initial-within, one-fits, pair-within, relative-within, step-query_within, two-fits}
use Rattle.joint_theory.proofs.Starts.{start-from, start-says}

-- not all of a cube
either-none : (first rest : Truth) → (not first || not rest) ≡ not (first && rest)
either-none true rest = refl
either-none false rest = refl

misses-cube : (n : ℕ) (v : Assignment) (cube : List ℤ) → IsTrue (clause_within n cube) → meets v (map neg_ℤ cube) ≡ not (list_all (is_true v) cube)
misses-cube n v [] within = refl
misses-cube n v (literal ∷ cube) within =
    let parts = and_parts (is_within n literal) (clause_within n cube) within in
    rw (true-neg v literal (within_is n literal parts.0).0, misses-cube n v cube parts.1) (either-none (is_true v literal) (list_all (is_true v) cube))

only-literal : (v : Assignment) (literal : ℤ) → IsTrue (meets v (literal ∷ [])) → is_true v literal ≡ true
only-literal v literal h = elim (or_cases (is_true v literal) false h) [ inl t ↦ t | inr f ↦ absurd (both_ways false refl f) ]

not-shifted : (v : Assignment) → shifted 0 v ≡ v
not-shifted v = λ i gate. v (e gate i)
  where
    e : (gate : ℕ) → 0 + gate ≡ gate
    e gate = omega arith

-- what a formula stands for, by what its models are

stands-one : (design : Design) (automaton : Automaton) (visits n : ℕ) (formula : List (List ℤ)) (named : JointState → Type 0) → IsTrue (clauses_within n formula)
    → ((values : Assignment) → IsModel values formula → named (state_in design automaton visits 0 values)
    × AreSame (joint_width design automaton visits) values (bits_of design automaton visits (state_in design automaton visits 0 values)))
    → ((state : JointState) → named state → (values : Assignment) × IsModel values formula
    × AreSame (joint_width design automaton visits) values (bits_of design automaton visits state))
    → StandsForOne design automaton visits n formula named
stands-one design automaton visits n formula named within reads writes = record {
  within = within;
  models = (
    λ some none. some (λ values _ model. none (state_in design automaton visits 0 (values_of values)) (reads (values_of values) model).0),
    λ some none. some (λ state is. let found = writes state is in
        none (map found.0 (range_with_len 1 n)) (first-length n found.0) (first-model n formula found.0 within found.1)),
  );
  reads = reads;
  writes = writes;
}

stands-two : (design : Design) (automaton : Automaton) (visits n : ℕ) (formula : List (List ℤ)) (named : JointState → JointState → Type 0) → IsTrue (clauses_within n formula)
    → ((values : Assignment) → IsModel values formula
    → named (state_in design automaton visits 0 values) (state_in design automaton visits (joint_width design automaton visits) values)
    × AreSame (joint_width design automaton visits) values (bits_of design automaton visits (state_in design automaton visits 0 values))
    × AreSame (joint_width design automaton visits) (values_from (joint_width design automaton visits) values)
    (bits_of design automaton visits (state_in design automaton visits (joint_width design automaton visits) values)))
    → ((state next : JointState) → named state next → (values : Assignment) × IsModel values formula
    × AreSame (joint_width design automaton visits) values (bits_of design automaton visits state)
    × AreSame (joint_width design automaton visits) (values_from (joint_width design automaton visits) values) (bits_of design automaton visits next))
    → StandsForTwo design automaton visits n formula named
stands-two design automaton visits n formula named within reads writes = record {
  within = within;
  models = (
    λ some none. some (λ values _ model. none (state_in design automaton visits 0 (values_of values))
        (state_in design automaton visits (joint_width design automaton visits) (values_of values)) (reads (values_of values) model).0),
    λ some none. some (λ state next are. let found = writes state next are in
        none (map found.0 (range_with_len 1 n)) (first-length n found.0) (first-model n formula found.0 within found.1)),
  );
  reads = reads;
  writes = writes;
}

module _ (design : Design) (automaton : Automaton) (visits : ℕ) (sound : netlists.IsSound design) (right : automata.IsSound automaton) (tests : TestsSignals design automaton) where
  abbrev width : ℕ
  width = joint_width design automaton visits

  -- where the state is initial

  start-met : (v : Assignment) → list_all (meets v) (units 0 (start_literals design automaton visits)) ≡ list_all (is_true v) (start_literals design automaton visits)
  start-met v =
      units-met v 0 (start_literals design automaton visits)
      ∙ ap (λ (u : Assignment). list_all (is_true u) (start_literals design automaton visits)) (not-shifted v)

  module _ (v : Assignment) (x : JointState) (is : IsState design automaton visits x) (bits : AreBits design automaton visits 0 v x) where
    units-say : IsTrue (list_all (meets v) (units 0 (start_literals design automaton visits))) → IsInitial design automaton x
    units-say h = start-says design automaton visits sound right v x is bits (sym (start-met v) ∙ h)

    units-from : IsInitial design automaton x → IsTrue (list_all (meets v) (units 0 (start_literals design automaton visits)))
    units-from initial = start-met v ∙ start-from design automaton visits sound right v x is bits initial

    asked-says : (initial : Truth) → IsTrue (list_all (meets v) (start_units design automaton visits initial)) → IsTrue initial → IsInitial design automaton x
    asked-says true h on = units-say h
    asked-says false h on = absurd (both_ways false refl on)

    asked-from : (initial : Truth) → (IsTrue initial → IsInitial design automaton x) → IsTrue (list_all (meets v) (start_units design automaton visits initial))
    asked-from true begins = units-from (begins refl)
    asked-from false begins = refl

  -- clauses and cubes, of values that are the bits of a state

  module _ (v : Assignment) (x : JointState) (same : AreSame width v (bits_of design automaton visits x)) where
    met-same : (clauses : List (List ℤ)) → IsTrue (clauses_within width clauses)
        → list_all (meets v) clauses ≡ is_met design automaton visits clauses x
    met-same clauses within = same-met width v (bits_of design automaton visits x) same clauses within

    cube-same : (cube : List ℤ) → IsTrue (clause_within width cube)
        → list_all (is_true v) cube ≡ is_in_cube design automaton visits cube x
    cube-same cube within = same-all width v (bits_of design automaton visits x) same cube within

    outside-says : (cube : List ℤ) → IsTrue (clause_within width cube) → IsTrue (meets v (map neg_ℤ cube))
        → is_in_cube design automaton visits cube x ≡ false
    outside-says cube within h =
        sym (cube-same cube within)
        ∙ not-true (list_all (is_true v) cube) (sym (misses-cube width v cube within) ∙ h)

    outside-from : (cube : List ℤ) → IsTrue (clause_within width cube) → is_in_cube design automaton visits cube x ≡ false
        → IsTrue (meets v (map neg_ℤ cube))
    outside-from cube within out =
        misses-cube width v cube within
        ∙ not_from_false (list_all (is_true v) cube) (cube-same cube within ∙ out)

  -- an initial state that misses a clause

  module _ (clauses : List (List ℤ)) (within : IsTrue (clauses_within width clauses)) where
    initial-reads : (values : Assignment) → IsModel values (query_initial design automaton visits clauses)
        → MissesInitially design automaton visits clauses (state_in design automaton visits 0 values)
        × AreSame width values (bits_of design automaton visits (state_in design automaton visits 0 values))
    initial-reads values model =
        let x = state_in design automaton visits 0 values in
        let both = missed-model width 0 (one_size design automaton visits)
        (whole (one_state design automaton visits) 0 ++ units 0 (start_literals design automaton visits)) clauses values within model in
        let parts = append-parts (meets values) (whole (one_state design automaton visits) 0) (units 0 (start_literals design automaton visits)) both.0 in
        let read = one-reads design automaton visits sound right tests values parts.0 in
        let same = bits-are design automaton visits 0 values x read.is read.bits in (
          record {
            is = read.is;
            initial = units-say values x read.is read.bits parts.1;
            misses = sym (met-same (shifted 0 values) x same clauses within) ∙ both.1;
          },
          at-none design automaton visits values (bits_of design automaton visits x) same,
        )

    initial-writes : (x : JointState) → MissesInitially design automaton visits clauses x
        → (values : Assignment) × IsModel values (query_initial design automaton visits clauses)
        × AreSame width values (bits_of design automaton visits x)
    initial-writes x named =
        let found = one-writes design automaton visits sound right tests x named.is in
        let same = from-none design automaton visits found.0 (bits_of design automaton visits x) found.2 in
        let bits = are-bits design automaton visits 0 found.0 x named.is same in
        let front = append-from (meets found.0) (whole (one_state design automaton visits) 0) (units 0 (start_literals design automaton visits)) found.1
        (units-from found.0 x named.is bits named.initial) in
        let fits = one-fits design automaton visits sound right tests in
        let all = missed-extends width 0 (one_size design automaton visits)
        (whole (one_state design automaton visits) 0 ++ units 0 (start_literals design automaton visits)) clauses found.0 within fits
        (initial-front design automaton visits sound right tests clauses within) front (met-same (shifted 0 found.0) x same clauses within ∙ named.misses) in (
          all.0,
          all.1,
          same-then width all.0 found.0 (bits_of design automaton visits x)
              (same-fewer width (one_size design automaton visits) all.0 found.0 (omega (arith, fits)) all.2) found.2,
        )

    pub initial-stands : StandsForOne design automaton visits (initial_variables design automaton visits clauses) (query_initial design automaton visits clauses)
        (MissesInitially design automaton visits clauses)
    initial-stands =
        stands-one design automaton visits (initial_variables design automaton visits clauses) (query_initial design automaton visits clauses)
        (MissesInitially design automaton visits clauses) (initial-within design automaton visits sound right tests clauses within) initial-reads initial-writes

    -- a pair of neighbours, of which the first meets all clauses and the second misses one

    step-reads : (values : Assignment) → IsModel values (query_step design automaton visits clauses)
        → LeavesBy design automaton visits clauses (state_in design automaton visits 0 values) (state_in design automaton visits width values)
        × AreSame width values (bits_of design automaton visits (state_in design automaton visits 0 values))
        × AreSame width (values_from width values)
        (bits_of design automaton visits (state_in design automaton visits width values))
    step-reads values model =
        let x = state_in design automaton visits 0 values in
        let y = state_in design automaton visits width values in
        let both = missed-model width width (two_size design automaton visits)
        (whole (two_states design automaton visits) 0 ++ clauses) clauses values within model in
        let parts = append-parts (meets values) (whole (two_states design automaton visits) 0) clauses both.0 in
        let read = two-reads design automaton visits sound right tests values parts.0 in
        let now = at-none design automaton visits values (bits_of design automaton visits x) (bits-are design automaton visits 0 values x read.first.is read.first.bits) in
        let next = bits-are design automaton visits width values y read.second.is read.second.bits in (
          record {
            is = read.first.is;
            is_next = read.second.is;
            neighbours = read.neighbours;
            meets = sym (met-same values x now clauses within) ∙ parts.1;
            misses = sym (met-same (shifted width values) y next clauses within) ∙ both.1;
          },
          now,
          next,
        )

    step-writes : (x y : JointState) → LeavesBy design automaton visits clauses x y
        → (values : Assignment) × IsModel values (query_step design automaton visits clauses)
        × AreSame width values (bits_of design automaton visits x)
        × AreSame width (values_from width values) (bits_of design automaton visits y)
    step-writes x y named =
        let found = two-writes design automaton visits sound right tests x y named.is named.is_next named.neighbours in
        let fits = two-fits design automaton visits sound right tests in
        let front = append-from (meets found.0) (whole (two_states design automaton visits) 0) clauses found.1 (met-same found.0 x found.2 clauses within ∙ named.meets) in
        let all = missed-extends width width (two_size design automaton visits)
        (whole (two_states design automaton visits) 0 ++ clauses) clauses found.0 within fits
        (pair-within design automaton visits sound right tests clauses within) front
        (met-same (shifted width found.0) y found.3 clauses within ∙ named.misses) in
        let few = same-fewer (width + width) (two_size design automaton visits) all.0 found.0 fits all.2 in (
          all.0,
          all.1,
          same-then width all.0 found.0 (bits_of design automaton visits x)
              (same-fewer width (two_size design automaton visits) all.0 found.0 (omega (arith, fits)) all.2) found.2,
          same-then width (shifted width all.0) (shifted width found.0)
              (bits_of design automaton visits y) (same-shifted width width all.0 found.0 few) found.3,
        )

    pub step-stands : StandsForTwo design automaton visits (step_variables design automaton visits clauses) (query_step design automaton visits clauses)
        (LeavesBy design automaton visits clauses)
    step-stands =
        stands-two design automaton visits (step_variables design automaton visits clauses) (query_step design automaton visits clauses)
        (LeavesBy design automaton visits clauses) (step-query_within design automaton visits sound right tests clauses within) step-reads step-writes

    -- a bad state that meets all clauses

    bad-reads : (values : Assignment) → IsModel values (query_bad design automaton visits clauses)
        → MeetsBadly design automaton visits clauses (state_in design automaton visits 0 values)
        × AreSame width values (bits_of design automaton visits (state_in design automaton visits 0 values))
    bad-reads values model =
        let x = state_in design automaton visits 0 values in
        let both = append-parts (meets values) (whole (one_state design automaton visits) 0 ++ clauses) ((bad_bit design automaton visits ∷ []) ∷ []) model in
        let parts = append-parts (meets values) (whole (one_state design automaton visits) 0) clauses both.0 in
        let read = one-reads design automaton visits sound right tests values parts.0 in
        let same = at-none design automaton visits values (bits_of design automaton visits x) (bits-are design automaton visits 0 values x read.is read.bits) in (
          record {
            is = read.is;
            bad = bad-says design automaton visits values x read.bits
                (only-literal values (bad_bit design automaton visits) (one-part (meets values) (bad_bit design automaton visits ∷ []) both.1));
            meets = sym (met-same values x same clauses within) ∙ parts.1;
          },
          same,
        )

    bad-writes : (x : JointState) → MeetsBadly design automaton visits clauses x
        → (values : Assignment) × IsModel values (query_bad design automaton visits clauses)
        × AreSame width values (bits_of design automaton visits x)
    bad-writes x named =
        let found = one-writes design automaton visits sound right tests x named.is in
        let bits = are-bits design automaton visits 0 found.0 x named.is (from-none design automaton visits found.0 (bits_of design automaton visits x) found.2) in (
          found.0,
          append-from (meets found.0) (whole (one_state design automaton visits) 0 ++ clauses) ((bad_bit design automaton visits ∷ []) ∷ [])
              (append-from (meets found.0) (whole (one_state design automaton visits) 0) clauses found.1 (met-same found.0 x found.2 clauses within ∙ named.meets))
              (one-from (meets found.0) (bad_bit design automaton visits ∷ [])
              (or_left (is_true found.0 (bad_bit design automaton visits)) false (bad-from design automaton visits found.0 x bits named.bad))),
          found.2,
        )

    pub bad-stands : StandsForOne design automaton visits (bad_variables design automaton visits) (query_bad design automaton visits clauses)
        (MeetsBadly design automaton visits clauses)
    bad-stands =
        stands-one design automaton visits (bad_variables design automaton visits) (query_bad design automaton visits clauses)
        (MeetsBadly design automaton visits clauses) (bad-query_within design automaton visits sound right tests clauses within) bad-reads bad-writes

    -- a pair of neighbours, of which the first meets the clauses and is outside a cube, and the second is in it

    module _ (initial : Truth) (cube : List ℤ) (also : IsTrue (clause_within width cube)) where
      abbrev outside_front : List (List ℤ)
      outside_front = whole (two_states design automaton visits) 0 ++ clauses ++ (map neg_ℤ cube ∷ [])

      relative-reads : (values : Assignment) → IsModel values (query_relative design automaton visits clauses initial cube)
          → EntersBy design automaton visits clauses initial cube (state_in design automaton visits 0 values) (state_in design automaton visits width values)
          × AreSame width values (bits_of design automaton visits (state_in design automaton visits 0 values))
          × AreSame width (values_from width values)
          (bits_of design automaton visits (state_in design automaton visits width values))
      relative-reads values model =
          let x = state_in design automaton visits 0 values in
          let y = state_in design automaton visits width values in
          let a = append-parts (meets values) (outside_front ++ units width cube) (start_units design automaton visits initial) model in
          let b = append-parts (meets values) outside_front (units width cube) a.0 in
          let d = append-parts (meets values) (whole (two_states design automaton visits) 0 ++ clauses) (map neg_ℤ cube ∷ []) b.0 in
          let parts = append-parts (meets values) (whole (two_states design automaton visits) 0) clauses d.0 in
          let read = two-reads design automaton visits sound right tests values parts.0 in
          let now = at-none design automaton visits values (bits_of design automaton visits x) (bits-are design automaton visits 0 values x read.first.is read.first.bits) in
          let next = bits-are design automaton visits width values y read.second.is read.second.bits in (
            record {
              is = read.first.is;
              is_next = read.second.is;
              neighbours = read.neighbours;
              meets = sym (met-same values x now clauses within) ∙ parts.1;
              outside = outside-says values x now cube also (one-part (meets values) (map neg_ℤ cube) d.1);
              inside = sym (cube-same (shifted width values) y next cube also) ∙ sym (units-met values width cube) ∙ b.1;
              begins = asked-says values x read.first.is read.first.bits initial a.1;
            },
            now,
            next,
          )

      -- values that begin with the bits of such a pair meet what is asked beside the relation
      pub relative-met : (front : List (List ℤ)) (v : Assignment) (x y : JointState) → IsModel v front → AreSame width v (bits_of design automaton visits x)
          → AreSame width (shifted width v) (bits_of design automaton visits y) → EntersBy design automaton visits clauses initial cube x y
          → IsModel v (front ++ clauses ++ (map neg_ℤ cube ∷ []) ++ units width cube ++ start_units design automaton visits initial)
      relative-met front v x y model now next named =
          let bits = are-bits design automaton visits 0 v x named.is (from-none design automaton visits v (bits_of design automaton visits x) now) in
          append-from (meets v) (front ++ clauses ++ (map neg_ℤ cube ∷ []) ++ units width cube) (start_units design automaton visits initial)
          (append-from (meets v) (front ++ clauses ++ (map neg_ℤ cube ∷ [])) (units width cube)
          (append-from (meets v) (front ++ clauses) (map neg_ℤ cube ∷ [])
          (append-from (meets v) front clauses model (met-same v x now clauses within ∙ named.meets))
          (one-from (meets v) (map neg_ℤ cube) (outside-from v x now cube also named.outside)))
          (units-met v width cube ∙ cube-same (shifted width v) y next cube also ∙ named.inside))
          (asked-from v x named.is bits initial named.begins)

      relative-writes : (x y : JointState) → EntersBy design automaton visits clauses initial cube x y
          → (values : Assignment) × IsModel values (query_relative design automaton visits clauses initial cube)
          × AreSame width values (bits_of design automaton visits x)
          × AreSame width (values_from width values) (bits_of design automaton visits y)
      relative-writes x y named =
          let found = two-writes design automaton visits sound right tests x y named.is named.is_next named.neighbours in (
            found.0,
            relative-met (whole (two_states design automaton visits) 0) found.0 x y found.1 found.2 found.3 named,
            found.2,
            found.3,
          )

      pub relative-stands : StandsForTwo design automaton visits (relative_variables design automaton visits) (query_relative design automaton visits clauses initial cube)
          (EntersBy design automaton visits clauses initial cube)
      relative-stands =
          stands-two design automaton visits (relative_variables design automaton visits) (query_relative design automaton visits clauses initial cube)
          (EntersBy design automaton visits clauses initial cube) (relative-within design automaton visits sound right tests clauses within initial cube also) relative-reads relative-writes
