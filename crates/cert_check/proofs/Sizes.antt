-- Formulas that were built, and those that are too large.
use Rattle.std.proofs.Common.{◌≡◌, inl, inr, ◌∙◌, ap, sym, subst, ℕ, ◌≤◌, ℤ, true, false, List, arith, refl}
use Rattle.clauses.specs.Literals.{clause_words}
use Rattle.clauses.specs.declared.cnf.Cnf.{Cnf}
use Rattle.clauses.specs.declared.flat.CnfFault.{CnfFault}
use Rattle.clauses.specs.declared.flat.CnfFault.TheVariants as formulas
use Rattle.clauses.specs.declared.flat.TheConstants.{MOST_VARIABLES, MOST_WORDS}
use Rattle.gates_theory.specs.Sizes.{IsTooLarge}
use Rattle.alternating_theory.specs.Obligations.{Automaton}
use Rattle.cert_theory.specs.declared.header.Header.{Header}
use Rattle.cert_theory.specs.Sections.{Query}
use Rattle.cert_lines.specs.Sections.{query_of}
use Rattle.joint.specs.Joined.{Joined}
use Rattle.joint_theory.specs.Queries.{base, base_variables, induction, induction_variables, joint_size, query, query_variables}
use Rattle.netlist.specs.Design.{Design}
use Rattle.joint_theory.specs.Reaching.{bad_variables, initial_variables, query_bad, query_initial, query_step, step_variables}
use Rattle.cert_check.specs.Claims.{bad_query, initial_query, step_query, window_query}
use Rattle.cert_check.specs.Faults.{of_formula}
use Rattle.psl_tree.specs.declared.limit.Limit.TheVariants.{Sere, Automaton as OfAutomaton, Unroll, Formula as OfFormula}
use Rattle.psl_tree.specs.declared.limit.LimitFault.{LimitFault}
use Rattle.psl_tree.specs.declared.limit.LimitFault.TheVariants.{TooLarge, NoMemory}
use Rattle.cert_check.specs.Limits.{AreClausesTooLarge, AreTooLarge, IsBadLarge, IsFormulaFault, IsInitialLarge, IsStepLarge}

-- one that was built is not too large
not_large : (formula : Cnf) (variables : ℕ) (clauses : List (List ℤ)) → formula.variables ≡ variables → formula.clauses ≡ clauses
    → clause_words formula.clauses ≤ MOST_WORDS → IsTooLarge variables clauses → ⊥
not_large formula variables clauses is same few (inl many) = omega (arith, many, is, formula.few)
not_large formula variables clauses is same few (inr long) = omega (arith, long, few, ap clause_words same)

-- what it is
same_query : (formula : Cnf) (variables : ℕ) (clauses : List (List ℤ)) → formula.variables ≡ variables → formula.clauses ≡ clauses
    → query_of formula ≡ record { variables = variables; clauses = clauses }
same_query formula variables clauses one two =
    ap (λ (n : ℕ). record { variables = n; clauses = formula.clauses }) one
    ∙ ap (λ (cs : List (List ℤ)). record { variables = variables; clauses = cs }) two

-- a formula of the joint states, of either kind
pub record IsBase (joint : Joined) (window : ℕ) (formula : Cnf) : Type 0 where
  pub variables : formula.variables ≡ base_variables joint.design joint.automaton joint.visits window
  pub clauses : formula.clauses ≡ base joint.design joint.automaton joint.visits window

pub record IsInduction (joint : Joined) (window : ℕ) (formula : Cnf) : Type 0 where
  pub variables : formula.variables ≡ induction_variables joint.design joint.automaton joint.visits window
  pub clauses : formula.clauses ≡ induction joint.design joint.automaton joint.visits window

module _ (design : Design) (automaton : Automaton) (header : Header) (joint : Joined) (is : joint ≡ record { design = design; automaton = automaton; visits = header.visits }) where
  pub of_induction : (fault : CnfFault)
      → (fault ≡ formulas.TooLarge → IsTooLarge (induction_variables joint.design joint.automaton joint.visits header.window) (induction joint.design joint.automaton joint.visits header.window))
      → IsFormulaFault (AreTooLarge design automaton header.visits header.window) (of_formula fault)
  of_induction formulas.TooLarge large =
      inr (subst (λ (j : Joined). IsTooLarge (induction_variables j.design j.automaton j.visits header.window) (induction j.design j.automaton j.visits header.window)) is (large refl))
  of_induction formulas.NoMemory large = tt

  pub of_base : (fault : CnfFault)
      → (fault ≡ formulas.TooLarge → IsTooLarge (base_variables joint.design joint.automaton joint.visits header.window) (base joint.design joint.automaton joint.visits header.window))
      → IsFormulaFault (AreTooLarge design automaton header.visits header.window) (of_formula fault)
  of_base formulas.TooLarge large =
      inl (subst (λ (j : Joined). IsTooLarge (base_variables j.design j.automaton j.visits header.window) (base j.design j.automaton j.visits header.window)) is (large refl))
  of_base formulas.NoMemory large = tt

  pub both_fit : (first second : Cnf) → IsBase joint header.window first → clause_words first.clauses ≤ MOST_WORDS → IsInduction joint header.window second
      → clause_words second.clauses ≤ MOST_WORDS → AreTooLarge design automaton header.visits header.window → ⊥
  both_fit first second one few two less (inl large) =
      let here = subst (λ (j : Joined). IsBase j header.window first) is one in
      not_large first (query_variables design automaton header.visits header.window true) (query design automaton header.visits header.window true) here.variables here.clauses few large
  both_fit first second one few two less (inr large) =
      let here = subst (λ (j : Joined). IsInduction j header.window second) is two in
      not_large second (query_variables design automaton header.visits header.window false) (query design automaton header.visits header.window false) here.variables here.clauses less large

  pub base_query : (formula : Cnf) → IsBase joint header.window formula → window_query design automaton true header.visits header.window ≡ query_of formula
  base_query formula one =
      let here = subst (λ (j : Joined). IsBase j header.window formula) is one in
      sym (same_query formula (query_variables design automaton header.visits header.window true) (query design automaton header.visits header.window true) here.variables here.clauses)

  pub induction_query : (formula : Cnf) → IsInduction joint header.window formula → window_query design automaton false header.visits header.window ≡ query_of formula
  induction_query formula one =
      let here = subst (λ (j : Joined). IsInduction j header.window formula) is one in
      sym (same_query formula (query_variables design automaton header.visits header.window false) (query design automaton header.visits header.window false) here.variables here.clauses)

-- the fault of a formula
pub formula_fault : (P : Type 0) (fault : CnfFault) → (fault ≡ formulas.TooLarge → P) → IsFormulaFault P (of_formula fault)
formula_fault P formulas.TooLarge large = large refl
formula_fault P formulas.NoMemory large = tt

-- what is too large for one reason
pub fault_for : (P Q : Type 0) (fault : LimitFault) → (P → Q) → IsFormulaFault P fault → IsFormulaFault Q fault
fault_for P Q (TooLarge Sere) of cause = absurd cause
fault_for P Q (TooLarge OfAutomaton) of cause = absurd cause
fault_for P Q (TooLarge Unroll) of cause = absurd cause
fault_for P Q (TooLarge OfFormula) of cause = of cause
fault_for P Q NoMemory of cause = tt

-- the formulas of clauses
pub record IsOf (query : Query) (formula : Cnf) : Type 0 where
  pub variables : formula.variables ≡ query.variables
  pub clauses : formula.clauses ≡ query.clauses

pub small_of : (query : Query) (formula : Cnf) → IsOf query formula → clause_words formula.clauses ≤ MOST_WORDS → IsTooLarge query.variables query.clauses → ⊥
small_of query formula of few = not_large formula query.variables query.clauses of.variables of.clauses few

pub query_is : (query : Query) (formula : Cnf) → IsOf query formula → query ≡ query_of formula
query_is query formula of = sym (same_query formula query.variables query.clauses of.variables of.clauses)

-- where none of them is too large, nothing is
pub none_large : (design : Design) (automaton : Automaton) (visits : ℕ) (clauses : List (List ℤ)) → joint_size design automaton visits ≤ MOST_VARIABLES
    → (IsInitialLarge design automaton visits clauses → ⊥) → (IsStepLarge design automaton visits clauses → ⊥) → (IsBadLarge design automaton visits clauses → ⊥)
    → AreClausesTooLarge design automaton visits clauses → ⊥
none_large design automaton visits clauses few initial step bad (inl large) = omega (arith, few, large)
none_large design automaton visits clauses few initial step bad (inr (inl large)) = initial large
none_large design automaton visits clauses few initial step bad (inr (inr (inl large))) = step large
none_large design automaton visits clauses few initial step bad (inr (inr (inr large))) = bad large

-- they are what was built of the joint states
module _ (joint : Joined) (clauses : List (List ℤ)) (formula : Cnf) where
  pub initial_of : formula.variables ≡ initial_variables joint.design joint.automaton joint.visits clauses
      → formula.clauses ≡ query_initial joint.design joint.automaton joint.visits clauses
      → IsOf (initial_query joint.design joint.automaton joint.visits clauses) formula
  unfolding initial_query
  initial_of one two = record { variables = one; clauses = two }

  pub step_of : formula.variables ≡ step_variables joint.design joint.automaton joint.visits clauses
      → formula.clauses ≡ query_step joint.design joint.automaton joint.visits clauses
      → IsOf (step_query joint.design joint.automaton joint.visits clauses) formula
  unfolding step_query
  step_of one two = record { variables = one; clauses = two }

  pub bad_of : formula.variables ≡ bad_variables joint.design joint.automaton joint.visits
      → formula.clauses ≡ query_bad joint.design joint.automaton joint.visits clauses
      → IsOf (bad_query joint.design joint.automaton joint.visits clauses) formula
  unfolding bad_query
  bad_of one two = record { variables = one; clauses = two }

-- and why they were not built
module _ (joint : Joined) (clauses : List (List ℤ)) (fault : CnfFault) where
  pub initial_fault : (fault ≡ formulas.TooLarge
      → IsTooLarge (initial_variables joint.design joint.automaton joint.visits clauses) (query_initial joint.design joint.automaton joint.visits clauses))
      → IsFormulaFault (AreClausesTooLarge joint.design joint.automaton joint.visits clauses) (of_formula fault)
  unfolding initial_query
  initial_fault large = formula_fault (AreClausesTooLarge joint.design joint.automaton joint.visits clauses) fault (λ is. inr (inl (large is)))

  pub step_fault : (fault ≡ formulas.TooLarge
      → IsTooLarge (step_variables joint.design joint.automaton joint.visits clauses) (query_step joint.design joint.automaton joint.visits clauses))
      → IsFormulaFault (AreClausesTooLarge joint.design joint.automaton joint.visits clauses) (of_formula fault)
  unfolding step_query
  step_fault large = formula_fault (AreClausesTooLarge joint.design joint.automaton joint.visits clauses) fault (λ is. inr (inr (inl (large is))))

  pub bad_fault : (fault ≡ formulas.TooLarge
      → IsTooLarge (bad_variables joint.design joint.automaton joint.visits) (query_bad joint.design joint.automaton joint.visits clauses))
      → IsFormulaFault (AreClausesTooLarge joint.design joint.automaton joint.visits clauses) (of_formula fault)
  unfolding bad_query
  bad_fault large = formula_fault (AreClausesTooLarge joint.design joint.automaton joint.visits clauses) fault (λ is. inr (inr (inr (large is))))
