-- A certificate that is passed proves its claim.
use Rattle.std.proofs.Common.{◌≡◌, ◌↔◌, ◌∙◌, ap, sym, subst, ℕ, ℤ, Bool as Truth, true, false, List, Option, Some}
use Rattle.std.specs.Bool.{IsTrue}
use Rattle.alternating_theory.specs.Acceptance.{Accepts}
use Rattle.alternating_theory.specs.Obligations.{Automaton}
use Rattle.cert_theory.specs.declared.header.Asked.{Asked}
use Rattle.cert_theory.specs.declared.header.Form.{Form}
use Rattle.cert_theory.specs.declared.header.Form.TheVariants.{Windowed, Clausal}
use Rattle.cert_theory.specs.declared.header.Header.{Header}
use Rattle.cert_theory.specs.Shown.{IsClosed, IsInduced, IsRefuted, IsShown, IsShownBy}
use Rattle.cert_theory.specs.Texts.{IsPassed}
use Rattle.cert_theory.proofs.Shows.{shown}
use Rattle.clauses.proofs.Soundness.{no_model}
use Rattle.clauses.specs.Literals.{clauses_within}
use Rattle.joint_theory.specs.Bits.{joint_width}
use Rattle.joint_theory.specs.Queries.{query, query_variables}
use Rattle.joint_theory.specs.Reaching.{AreRefuted, LeavesBy, MeetsBadly, MissesInitially, StandsForOne, StandsForTwo, bad_variables, initial_variables, query_bad, query_initial, query_step, step_variables}
use Rattle.joint_theory.specs.Sets.{IsInductive}
use Rattle.netlist.specs.Design.{Design}
use Rattle.netlist.specs.Runs.{IsRun, word}
use Rattle.netlist.specs.Sound as netlists
use Rattle.netlist.specs.declared.run.Run.{Run}
use Rattle.owed.specs.Violations.{AcceptsViolatingRuns, violation_of}
use Rattle.psl_tree.specs.declared.directive.Directive.{Directive}
use Rattle.run_terms.specs.Automata.{IsSound, TestsSignals}
use Rattle.run_terms.specs.Formulas.{HasModel, values_of}
use Rattle.cert_check.specs.Claims.{EachSatisfies, IsProved, asked_of, bad_query, directive_of, initial_query, has_claim, queries_by, queries_for, queries_of, step_query}

-- a formula that is refuted has no model
refuted_none : (variables : ℕ) (clauses : List (List ℤ)) → IsTrue (clauses_within variables clauses) → IsRefuted (record { variables = variables; clauses = clauses })
    → HasModel variables clauses → ⊥
refuted_none variables clauses within refuted has =
    has (λ values size model. no_model (values_of values) variables clauses refuted.0 within refuted.1 model)

-- the formulas of clauses, by what they are made of
module _ (design : Design) (automaton : Automaton) (visits : ℕ) (clauses : List (List ℤ)) where
  initial_refuted : IsRefuted (initial_query design automaton visits clauses)
      → IsRefuted (record { variables = initial_variables design automaton visits clauses; clauses = query_initial design automaton visits clauses })
  unfolding initial_query
  initial_refuted is = is

  step_refuted : IsRefuted (step_query design automaton visits clauses)
      → IsRefuted (record { variables = step_variables design automaton visits clauses; clauses = query_step design automaton visits clauses })
  unfolding step_query
  step_refuted is = is

  bad_refuted : IsRefuted (bad_query design automaton visits clauses)
      → IsRefuted (record { variables = bad_variables design automaton visits; clauses = query_bad design automaton visits clauses })
  unfolding bad_query
  bad_refuted is = is

-- what the laws of the joint states say
abbrev pub RefutesRuns : Type 0
RefutesRuns = (design : Design) (automaton : Automaton) (visits window : ℕ) → netlists.IsSound design → IsSound automaton → TestsSignals design automaton
    → (HasModel (query_variables design automaton visits window true) (query design automaton visits window true) → ⊥)
    → (HasModel (query_variables design automaton visits window false) (query design automaton visits window false) → ⊥)
    → (run : Run) → IsRun design run → Accepts automaton (word design run) → ⊥

abbrev pub AreWithin : Type 0
AreWithin = (design : Design) (automaton : Automaton) (visits window : ℕ) (initial : Truth) → netlists.IsSound design → IsSound automaton → TestsSignals design automaton
    → IsTrue (clauses_within (query_variables design automaton visits window initial) (query design automaton visits window initial))

abbrev pub InductsRuns : Type 0
InductsRuns = (design : Design) (automaton : Automaton) (visits : ℕ) (clauses : List (List ℤ)) → IsInductive design automaton visits clauses
    → (run : Run) → IsRun design run → Accepts automaton (word design run) → ⊥

-- what the formulas of clauses stand for
abbrev pub StandInitially : Type 0
StandInitially = (design : Design) (automaton : Automaton) (visits : ℕ) (clauses : List (List ℤ)) → netlists.IsSound design → IsSound automaton
    → TestsSignals design automaton → IsTrue (clauses_within (joint_width design automaton visits) clauses)
    → StandsForOne design automaton visits (initial_variables design automaton visits clauses) (query_initial design automaton visits clauses)
    (MissesInitially design automaton visits clauses)

abbrev pub StandForSteps : Type 0
StandForSteps = (design : Design) (automaton : Automaton) (visits : ℕ) (clauses : List (List ℤ)) → netlists.IsSound design → IsSound automaton
    → TestsSignals design automaton → IsTrue (clauses_within (joint_width design automaton visits) clauses)
    → StandsForTwo design automaton visits (step_variables design automaton visits clauses) (query_step design automaton visits clauses)
    (LeavesBy design automaton visits clauses)

abbrev pub StandBadly : Type 0
StandBadly = (design : Design) (automaton : Automaton) (visits : ℕ) (clauses : List (List ℤ)) → netlists.IsSound design → IsSound automaton
    → TestsSignals design automaton → IsTrue (clauses_within (joint_width design automaton visits) clauses)
    → StandsForOne design automaton visits (bad_variables design automaton visits) (query_bad design automaton visits clauses)
    (MeetsBadly design automaton visits clauses)

abbrev pub AreInductive : Type 0
AreInductive = (design : Design) (automaton : Automaton) (visits : ℕ) (clauses : List (List ℤ)) → netlists.IsSound design → IsSound automaton
    → TestsSignals design automaton → IsTrue (clauses_within (joint_width design automaton visits) clauses)
    → IsInductive design automaton visits clauses ↔ AreRefuted design automaton visits clauses

module _ (design : Design) (unit : List Directive) (directive : Directive) (sound : netlists.IsSound design) (right : IsSound (violation_of unit directive))
    (tests : TestsSignals design (violation_of unit directive)) (tells : AcceptsViolatingRuns design unit directive) where
  -- where no run's word is accepted, each run satisfies what is owed
  none_accepted : ((run : Run) → IsRun design run → Accepts (violation_of unit directive) (word design run) → ⊥) → EachSatisfies design unit directive
  none_accepted none = λ run runs. (tells run runs.loops).satisfied (none run runs)

  by_window : RefutesRuns → AreWithin → (header : Header) → IsClosed (queries_for design (violation_of unit directive)) header → EachSatisfies design unit directive
  by_window refutes within header is =
      let automaton = violation_of unit directive in
      let visits = header.visits in
      let window = header.window in
      none_accepted
      (refutes design automaton visits window sound right tests
      (refuted_none (query_variables design automaton visits window true) (query design automaton visits window true) (within design automaton visits window true sound right tests) is.base)
      (refuted_none (query_variables design automaton visits window false) (query design automaton visits window false) (within design automaton visits window false sound right tests) is.induction))

  by_clauses : InductsRuns → StandInitially → StandForSteps → StandBadly → AreInductive → (header : Header) (clauses : List (List ℤ))
      → IsInduced (queries_for design (violation_of unit directive)) header clauses → EachSatisfies design unit directive
  by_clauses inducts initially steps badly inductive header clauses is =
      let automaton = violation_of unit directive in
      let visits = header.visits in
      none_accepted (inducts design automaton visits clauses ((inductive design automaton visits clauses sound right tests is.within).1 (record {
        initial = refuted_none (initial_variables design automaton visits clauses) (query_initial design automaton visits clauses)
            (initially design automaton visits clauses sound right tests is.within).within (initial_refuted design automaton visits clauses is.initial);
        step = refuted_none (step_variables design automaton visits clauses) (query_step design automaton visits clauses)
            (steps design automaton visits clauses sound right tests is.within).within (step_refuted design automaton visits clauses is.step);
        bad = refuted_none (bad_variables design automaton visits) (query_bad design automaton visits clauses)
            (badly design automaton visits clauses sound right tests is.within).within (bad_refuted design automaton visits clauses is.bad);
      })))

  by_form : RefutesRuns → AreWithin → InductsRuns → StandInitially → StandForSteps → StandBadly → AreInductive → (asked : Asked) (text : List ℕ) (header : Header) (form : Form)
      → IsShownBy asked (queries_for design (violation_of unit directive)) text header form → EachSatisfies design unit directive
  by_form refutes within inducts initially steps badly inductive asked text header (Windowed version) is = by_window refutes within header is
  by_form refutes within inducts initially steps badly inductive asked text header Clausal is =
      by_clauses inducts initially steps badly inductive header is.0 is.2

  pub each_satisfies : RefutesRuns → AreWithin → InductsRuns → StandInitially → StandForSteps → StandBadly → AreInductive
      → (asked : Asked) (text : List ℕ) → IsShown asked (queries_for design (violation_of unit directive)) text → EachSatisfies design unit directive
  each_satisfies refutes within inducts initially steps badly inductive asked text is =
      by_form refutes within inducts initially steps badly inductive asked text is.header is.header.form is.by

pub is_proved : (design : Design) (unit : List Directive) (number : ℕ) (directive : Directive) (text : List ℕ) → directive_of unit number ≡ Some directive
    → IsPassed (asked_of unit number) (queries_of design unit number) text
    → ((asked : Asked) (text : List ℕ) → IsShown asked (queries_for design (violation_of unit directive)) text → EachSatisfies design unit directive) → IsProved design unit number
is_proved design unit number directive text is passed each =
    let here = shown (asked_of unit number) (queries_of design unit number) text passed in
    record {
      directive = directive;
      is = is;
      has_claim = sym (ap has_claim is) ∙ here.has.has_claim;
      each = each (asked_of unit number) text (subst (λ (found : Option Directive). IsShown (asked_of unit number) (queries_by design unit found) text) is here);
    }
