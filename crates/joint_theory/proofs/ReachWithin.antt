-- The literals of the queries of reachability are of their variables.
use Rattle.std.proofs.Common.{refl, ◌∙◌, ℕ, suc, ◌+◌, ◌*◌, ◌≤◌, ℤ, neg_ℤ, Bool as Truth, true, false, List, [], ◌∷◌, ◌++◌, map, length, arith}
use Rattle.std.specs.Prelude.{IsTrue}
use Rattle.std.proofs.lemmas.Bool.{and_from}
use Rattle.alternating_theory.specs.Obligations.{Automaton}
use Rattle.clauses.specs.Literals.{clause_within, clauses_within, is_within}
use Rattle.gates_theory.specs.Relations.{circuit_of, IsClosed, Relation}
use Rattle.gates_theory.specs.Unrolled.{units}
use Rattle.gates_theory.proofs.Within.{both_within, negated_within, wider, wider_all}
use Rattle.joint_selectors.specs.Missed.{some_missed}
use Rattle.joint_selectors.proofs.Sizes.{some-within}
use Rattle.netlist.specs.Design.{Design}
use Rattle.netlist.specs.Sound as netlists
use Rattle.run_terms.specs.Automata as automata
use Rattle.run_terms.specs.Automata.{TestsSignals}
use Rattle.run_terms.specs.Formulas.{whole}
use Rattle.run_terms.proofs.FormulaSizes.{gates-length}
use Rattle.run_terms.proofs.Logic.{pos_within}
use Rattle.joint_theory.specs.Bits.{bad_bit, joint_width}
use Rattle.joint_theory.specs.Queries.{start_literals}
use Rattle.joint_theory.specs.Reaching.{bad_variables, initial_variables, one_size, one_state, query_bad, query_initial, query_relative, query_step, relative_variables, start_units, step_variables, two_size, two_states}
use Rattle.joint_theory.proofs.Clauses.{units-within, whole-within}
use Rattle.joint_theory.proofs.Pairs.{one-closed, two-closed}
use Rattle.joint_theory.proofs.Parts.{all-weaker, map-parts}
use Rattle.joint_theory.proofs.Within.{start-within}

pub alone-within : (r : Relation) → IsClosed r → IsTrue (clauses_within (length (circuit_of r).gates) (whole r 0))
alone-within r closed =
    wider_all (suc 0 * length (circuit_of r).gates) (length (circuit_of r).gates) (omega arith) (whole r 0) (whole-within r 0 closed)

module _ (design : Design) (automaton : Automaton) (visits : ℕ) (sound : netlists.IsSound design) (right : automata.IsSound automaton) (tests : TestsSignals design automaton) where
  abbrev width : ℕ
  width = joint_width design automaton visits

  -- the bits are among the gates
  pub one-fits : 0 + width ≤ one_size design automaton visits
  one-fits = omega (arith, gates-length (one_state design automaton visits) (one-closed design automaton visits sound right tests))

  pub two-fits : width + width ≤ two_size design automaton visits
  two-fits = omega (arith, gates-length (two_states design automaton visits) (two-closed design automaton visits sound right tests))

  start-units_within : (n : ℕ) → 0 + width ≤ n → IsTrue (clauses_within n (units 0 (start_literals design automaton visits)))
  start-units_within n fits =
      units-within n n 0 (start_literals design automaton visits) (start-within design automaton visits sound right tests n fits) (omega arith)

  start-asked_within : (n : ℕ) → 0 + width ≤ n → (initial : Truth) → IsTrue (clauses_within n (start_units design automaton visits initial))
  start-asked_within n fits true = start-units_within n fits
  start-asked_within n fits false = refl

  module _ (clauses : List (List ℤ)) (within : IsTrue (clauses_within width clauses)) where
    pub initial-front : IsTrue (clauses_within (one_size design automaton visits) (whole (one_state design automaton visits) 0 ++ units 0 (start_literals design automaton visits)))
    initial-front =
        both_within (one_size design automaton visits) (whole (one_state design automaton visits) 0) (units 0 (start_literals design automaton visits))
        (alone-within (one_state design automaton visits) (one-closed design automaton visits sound right tests))
        (start-units_within (one_size design automaton visits) one-fits)

    pub initial-within : IsTrue (clauses_within (initial_variables design automaton visits clauses) (query_initial design automaton visits clauses))
    initial-within =
        both_within (initial_variables design automaton visits clauses) (whole (one_state design automaton visits) 0 ++ units 0 (start_literals design automaton visits))
        (some_missed 0 (one_size design automaton visits) clauses)
        (wider_all (one_size design automaton visits) (initial_variables design automaton visits clauses) (omega arith)
        (whole (one_state design automaton visits) 0 ++ units 0 (start_literals design automaton visits)) initial-front)
        (some-within width 0 (one_size design automaton visits) clauses one-fits within)

    -- a pair whose first state meets clauses
    pub pair-within : IsTrue (clauses_within (two_size design automaton visits) (whole (two_states design automaton visits) 0 ++ clauses))
    pair-within =
        both_within (two_size design automaton visits) (whole (two_states design automaton visits) 0) clauses
        (alone-within (two_states design automaton visits) (two-closed design automaton visits sound right tests))
        (wider_all width (two_size design automaton visits) (omega (arith, two-fits)) clauses within)

    pub step-query_within : IsTrue (clauses_within (step_variables design automaton visits clauses) (query_step design automaton visits clauses))
    step-query_within =
        both_within (step_variables design automaton visits clauses) (whole (two_states design automaton visits) 0 ++ clauses)
        (some_missed width (two_size design automaton visits) clauses)
        (wider_all (two_size design automaton visits) (step_variables design automaton visits clauses) (omega arith)
        (whole (two_states design automaton visits) 0 ++ clauses) pair-within)
        (some-within width width (two_size design automaton visits) clauses two-fits within)

    bad-bit_within : IsTrue (is_within (one_size design automaton visits) (bad_bit design automaton visits))
    bad-bit_within = pos_within (one_size design automaton visits) _ (omega arith) (omega (arith, one-fits))

    pub bad-query_within : IsTrue (clauses_within (bad_variables design automaton visits) (query_bad design automaton visits clauses))
    bad-query_within =
        both_within (one_size design automaton visits) (whole (one_state design automaton visits) 0 ++ clauses) ((bad_bit design automaton visits ∷ []) ∷ [])
        (both_within (one_size design automaton visits) (whole (one_state design automaton visits) 0) clauses
        (alone-within (one_state design automaton visits) (one-closed design automaton visits sound right tests))
        (wider_all width (one_size design automaton visits) (omega (arith, one-fits)) clauses within))
        (and_from (clause_within (one_size design automaton visits) (bad_bit design automaton visits ∷ [])) true
        (and_from (is_within (one_size design automaton visits) (bad_bit design automaton visits)) true bad-bit_within refl) refl)

    -- what is asked of a pair beside its relation, behind other clauses
    pub relative-behind : (n : ℕ) → width + width ≤ n → (front : List (List ℤ)) → IsTrue (clauses_within n front) → (initial : Truth) (cube : List ℤ) → IsTrue (clause_within width cube)
        → IsTrue (clauses_within n (front ++ clauses ++ (map neg_ℤ cube ∷ []) ++ units width cube ++ start_units design automaton visits initial))
    relative-behind n fits front fronts initial cube also =
        both_within n (front ++ clauses ++ (map neg_ℤ cube ∷ []) ++ units width cube) (start_units design automaton visits initial)
        (both_within n (front ++ clauses ++ (map neg_ℤ cube ∷ [])) (units width cube)
        (both_within n (front ++ clauses) (map neg_ℤ cube ∷ [])
        (both_within n front clauses fronts (wider_all width n (omega arith) clauses within))
        (and_from (clause_within n (map neg_ℤ cube)) true
        (map-parts (is_within n) neg_ℤ cube
        ∙ all-weaker (is_within n) (λ literal. is_within n (neg_ℤ literal)) (negated_within n) cube
        (wider width n (omega arith) cube also)) refl))
        (units-within n width width cube also fits))
        (start-asked_within n (omega arith) initial)

    pub relative-within : (initial : Truth) (cube : List ℤ) → IsTrue (clause_within width cube)
        → IsTrue (clauses_within (relative_variables design automaton visits) (query_relative design automaton visits clauses initial cube))
    relative-within =
        relative-behind (two_size design automaton visits) two-fits (whole (two_states design automaton visits) 0)
        (alone-within (two_states design automaton visits) (two-closed design automaton visits sound right tests))
