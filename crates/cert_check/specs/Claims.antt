-- What is claimed of a netlist by a certificate.
use Rattle.std.specs.Prelude.{◌≡◌, ℕ, ℤ, ◌==◌, Bool as Truth, true, false, List, [], Option, None, Some}
use Rattle.std.specs.List.{find}
use Rattle.alternating_theory.specs.Obligations.{Automaton}
use Rattle.cert_theory.specs.declared.answer.CertAnswer.{CertAnswer}
use Rattle.cert_theory.specs.declared.header.Asked.{Asked}
use Rattle.cert_theory.specs.declared.header.Header.{Header}
use Rattle.cert_theory.specs.Phases.{Phase, behind_header}
use Rattle.cert_theory.specs.Sections.{Queries, Query}
use Rattle.cert_theory.specs.Texts.{IsAnswer}
use Rattle.cert_lines.specs.Readings.{IsAt}
use Rattle.cert_lines.specs.declared.reading.Reading.{Reading}
use Rattle.joint_theory.specs.Bits.{joint_width}
use Rattle.joint_theory.specs.Queries.{query, query_variables}
use Rattle.joint_theory.specs.Reaching.{bad_variables, initial_variables, query_bad, query_initial, query_step, step_variables}
use Rattle.netlist.specs.Design.{Design}
use Rattle.netlist.specs.Runs.{IsRun, word}
use Rattle.netlist.specs.declared.run.Run.{Run}
use Rattle.owed.specs.Owed.{is_asked, owed}
use Rattle.owed.specs.Violations.{violation_of}
use Rattle.psl_tree.specs.Satisfaction.{Sat}
use Rattle.psl_tree.specs.Trace.{trace_of}
use Rattle.psl_tree.specs.declared.directive.Directive.{Directive}

-- the directive of a number
abbrev pub directive_of : List Directive → ℕ → Option Directive
directive_of unit number = find (λ (directive : Directive). directive.number == number) unit

-- there is a directive, and it claims something: it is an assertion or a cover
abbrev pub has_claim : Option Directive → Truth
has_claim None = false
has_claim (Some directive) = is_asked true directive.kind

-- what is asked for by a number
abbrev pub asked_of : List Directive → ℕ → Asked
asked_of unit number = record { number = number; has_claim = has_claim (directive_of unit number) }

-- the formula of a window of joint states: no open path is initial, or none is of the other kind
abbrev pub window_query : Design → Automaton → Truth → ℕ → ℕ → Query
window_query design automaton initial visits window = record {
  variables = query_variables design automaton visits window initial;
  clauses = query design automaton visits window initial;
}

-- The formulas of clauses: no initial state misses one, no state that meets all has a neighbour that misses one, and no
-- bad state meets all. They go by these names until it counts what they are made of.
unfoldable pub initial_query : Design → Automaton → ℕ → List (List ℤ) → Query
initial_query design automaton visits clauses = record {
  variables = initial_variables design automaton visits clauses;
  clauses = query_initial design automaton visits clauses;
}

unfoldable pub step_query : Design → Automaton → ℕ → List (List ℤ) → Query
step_query design automaton visits clauses = record {
  variables = step_variables design automaton visits clauses;
  clauses = query_step design automaton visits clauses;
}

unfoldable pub bad_query : Design → Automaton → ℕ → List (List ℤ) → Query
bad_query design automaton visits clauses = record {
  variables = bad_variables design automaton visits;
  clauses = query_bad design automaton visits clauses;
}

-- the formulas of an automaton of violations
abbrev pub queries_for : Design → Automaton → Queries
queries_for design automaton = record {
  base = window_query design automaton true;
  induction = window_query design automaton false;
  initial = initial_query design automaton;
  step = step_query design automaton;
  bad = bad_query design automaton;
  width = joint_width design automaton;
}

-- the formula that asks for nothing, and the formulas where there is no directive
abbrev pub nothing : Query
nothing = record { variables = 0; clauses = [] }

abbrev pub no_queries : Queries
no_queries = record {
  base = λ visits window. nothing;
  induction = λ visits window. nothing;
  initial = λ visits clauses. nothing;
  step = λ visits clauses. nothing;
  bad = λ visits clauses. nothing;
  width = λ visits. 0;
}

-- the formulas of a directive, where there is one
abbrev pub queries_by : Design → List Directive → Option Directive → Queries
queries_by design unit None = no_queries
queries_by design unit (Some directive) = queries_for design (violation_of unit directive)

abbrev pub queries_of : Design → List Directive → ℕ → Queries
queries_of design unit number = queries_by design unit (directive_of unit number)

-- the answer to a text that was read as far as a phase, and as far as the header
abbrev pub AnswersAt : Design → Automaton → Phase → Reading → CertAnswer → Type 0
AnswersAt design automaton phase reading answer =
    (asked : Asked) (text : List ℕ) → IsAt asked (queries_for design automaton) text phase reading
    → IsAnswer asked (queries_for design automaton) text answer

abbrev pub AnswersBehind : Design → Automaton → Header → Reading → CertAnswer → Type 0
AnswersBehind design automaton header reading answer = AnswersAt design automaton (behind_header header) reading answer

-- each run of the netlist satisfies what is owed of a directive
abbrev pub EachSatisfies : Design → List Directive → Directive → Type 0
EachSatisfies design unit directive =
    (run : Run) → IsRun design run → Sat (trace_of (word design run)) (owed unit directive) None

-- the number is that of a directive or a cover, and each run satisfies what is owed of it
pub record IsProved (design : Design) (unit : List Directive) (number : ℕ) : Type 0 where
  pub directive : Directive
  pub is : directive_of unit number ≡ Some directive
  pub has_claim : is_asked true directive.kind ≡ true
  pub each : EachSatisfies design unit directive
