-- The formulas of the queries.
use Rattle.std.specs.Prelude.{◌≡◌, ℕ, ℤ, List, IsTrue}
use Rattle.clauses.specs.Literals.{clause_within, clauses_within}
use Rattle.clauses.specs.declared.cnf.Cnf.{Cnf}
use Rattle.joint.specs.Joined.{Joined}
use Rattle.joint_theory.specs.Bits.{joint_width}
use Rattle.joint_theory.specs.Reaching.{bad_variables, initial_variables, query_bad, query_initial, query_relative, query_step, relative_variables, step_variables}
use Rattle.reach_frames.specs.declared.stop.ReachQuery.{ReachQuery}
use Rattle.reach_frames.specs.declared.stop.ReachQuery.TheVariants.{Initial, Step, Bad, Relative}

abbrev pub clauses_of : Joined → ReachQuery → List (List ℤ)
clauses_of joined (Initial clauses) = query_initial joined.design joined.automaton joined.visits clauses
clauses_of joined (Step clauses) = query_step joined.design joined.automaton joined.visits clauses
clauses_of joined (Bad clauses) = query_bad joined.design joined.automaton joined.visits clauses
clauses_of joined (Relative frame initial cube) =
    query_relative joined.design joined.automaton joined.visits frame initial cube

abbrev pub variables_of : Joined → ReachQuery → ℕ
variables_of joined (Initial clauses) = initial_variables joined.design joined.automaton joined.visits clauses
variables_of joined (Step clauses) = step_variables joined.design joined.automaton joined.visits clauses
variables_of joined (Bad clauses) = bad_variables joined.design joined.automaton joined.visits
variables_of joined (Relative frame initial cube) = relative_variables joined.design joined.automaton joined.visits

pub record IsFormulaOf (joined : Joined) (query : ReachQuery) (formula : Cnf) : Type 0 where
  pub variables : formula.variables ≡ variables_of joined query
  pub clauses : formula.clauses ≡ clauses_of joined query

-- clauses, and a query, speak of the bits of a state
abbrev pub AreWithin : Joined → List (List ℤ) → Type 0
AreWithin joined clauses = IsTrue (clauses_within (joint_width joined.design joined.automaton joined.visits) clauses)

abbrev pub IsWithin : Joined → ReachQuery → Type 0
IsWithin joined (Initial clauses) = AreWithin joined clauses
IsWithin joined (Step clauses) = AreWithin joined clauses
IsWithin joined (Bad clauses) = AreWithin joined clauses
IsWithin joined (Relative frame initial cube) =
    AreWithin joined frame × IsTrue (clause_within (joint_width joined.design joined.automaton joined.visits) cube)
