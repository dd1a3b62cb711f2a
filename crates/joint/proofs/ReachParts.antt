-- The formulas of reachability as those of a state or of a pair and what is added to them.
use Rattle.std.proofs.Common.{◌≡◌, ◌∙◌, ap, ℕ, ◌+◌, ◌-◌, ℤ, neg_ℤ, Bool as Truth, List, [], ◌∷◌, ◌++◌, map, length, append_assoc, arith}
use Rattle.alternating_theory.specs.Obligations.{Automaton}
use Rattle.gates_theory.specs.Unrolled.{units}
use Rattle.joint_selectors.specs.Missed.{some_missed}
use Rattle.joint_theory.specs.Bits.{bad_bit, joint_width}
use Rattle.joint_theory.specs.Queries.{start_literals}
use Rattle.joint_theory.specs.Reaching.{one_size, one_state, query_bad, query_initial, query_relative, query_step, start_units, two_size, two_states}
use Rattle.netlist.specs.Design.{Design}
use Rattle.run_terms.specs.Formulas.{whole}

module _ (design : Design) (automaton : Automaton) (visits : ℕ) (clauses : List (List ℤ)) where
  abbrev one : List (List ℤ)
  one = whole (one_state design automaton visits) 0

  abbrev two : List (List ℤ)
  two = whole (two_states design automaton visits) 0

  abbrev start : List (List ℤ)
  start = units 0 (start_literals design automaton visits)

  pub initial-is : (variables : ℕ) → variables ≡ one_size design automaton visits + length clauses
      → query_initial design automaton visits clauses
      ≡ whole (one_state design automaton visits) 0
      ++ (units 0 (start_literals design automaton visits) ++ some_missed 0 (variables - length clauses) clauses)
  initial-is variables e =
      let before : variables - length clauses ≡ one_size design automaton visits = omega arith in
      rw before (append_assoc one start (some_missed 0 (one_size design automaton visits) clauses))

  pub step-is : (variables width : ℕ) → variables ≡ two_size design automaton visits + length clauses → width ≡ joint_width design automaton visits
      → query_step design automaton visits clauses
      ≡ whole (two_states design automaton visits) 0 ++ (clauses ++ some_missed width (variables - length clauses) clauses)
  step-is variables width e is =
      let before : variables - length clauses ≡ two_size design automaton visits = omega arith in
      rw (before, is) (append_assoc two clauses (some_missed (joint_width design automaton visits) (two_size design automaton visits) clauses))

  pub bad-is : query_bad design automaton visits clauses
      ≡ whole (one_state design automaton visits) 0 ++ (clauses ++ (bad_bit design automaton visits ∷ []) ∷ [])
  bad-is = append_assoc one clauses ((bad_bit design automaton visits ∷ []) ∷ [])

  -- the pair with what is asked of its first state, and then what is asked of the second
  pub relative-is : (width : ℕ) (initial : Truth) (cube : List ℤ) → width ≡ joint_width design automaton visits
      → query_relative design automaton visits clauses initial cube
      ≡ (whole (two_states design automaton visits) 0 ++ (clauses ++ (map neg_ℤ cube ∷ [])))
      ++ (units width cube ++ start_units design automaton visits initial)
  relative-is width initial cube is =
      let outside = map neg_ℤ cube ∷ [] in
      let asked = start_units design automaton visits initial in
      let inside = units (joint_width design automaton visits) cube in
      rw is (append_assoc (two ++ clauses ++ outside) inside asked ∙ ap (λ (front : List (List ℤ)). front ++ (inside ++ asked)) (append_assoc two clauses outside))
