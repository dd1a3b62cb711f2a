-- The joint paths of a kind, in the words of their query.
use Rattle.std.proofs.Common.{◌≡◌, ◌∙◌, refl, ap, sym, subst, ◌↔◌, ◌≤◌, ℕ, ℤ, Bool as Truth, true, false, List}
use Rattle.alternating_theory.specs.Obligations.{Automaton}
use Rattle.cdcl.specs.Answers.{IsModelOf, IsRefutation}
use Rattle.gates_theory.specs.Sizes.{IsTooLarge}
use Rattle.clauses.specs.Literals.{clause_words}
use Rattle.clauses.specs.Logs.{LogEntry}
use Rattle.clauses.specs.Models.{IsModel}
use Rattle.clauses.specs.declared.cnf.Cnf.{Cnf}
use Rattle.clauses.specs.declared.flat.CnfFault.{CnfFault}
use Rattle.clauses.specs.declared.flat.CnfFault.TheVariants as faults
use Rattle.clauses.specs.declared.flat.TheConstants.{MOST_WORDS}
use Rattle.joint.specs.Joined.{Joined}
use Rattle.joint_theory.specs.Paths.{IsOpen, SomeOpen}
use Rattle.joint_theory.specs.Queries.{query, query_variables}
use Rattle.joint_theory.specs.declared.path.JointPath.{JointPath}
use Rattle.netlist.specs.Design.{Design}
use Rattle.owed.specs.Violations.{violation_of}
use Rattle.psl_tree.specs.declared.directive.Directive.{Directive}
use Rattle.run_terms.specs.Formulas.{HasModel, values_of}
use Rattle.prover.proofs.Opened.{none-open, refuted}
use Rattle.prover.specs.Findings.{IsFinding}
use Rattle.prover.specs.Proving.{IsRefuted}
use Rattle.prover.specs.Queries.{IsFormulaOf, clauses_of, variables_of}
use Rattle.prover.specs.Stops.{IsStopOf, stop_of}
use Rattle.prover.specs.Views.{IsJointOf, IsSeen, kind_query, view_query}
use Rattle.prover.specs.declared.closing.View.{View}
use Rattle.prover.specs.declared.finding.Finding.TheVariants.{Large}
use Rattle.prover.specs.declared.finding.Query.{Query}
use Rattle.prover.specs.declared.stop.Stop.{Stop}
use Rattle.prover.specs.declared.task.Task.{Task}

-- where there is no formula of a query, the search ends as a finding, or for want of memory
stop-at : (task : Task) (query : Query) (fault : CnfFault)
    → (fault ≡ faults.TooLarge → IsFinding task.netlist.now task.unit.now task.directive.now task.options (Large query))
    → IsStopOf task (stop_of query fault)
stop-at task query faults.TooLarge finds = finds refl
stop-at task query faults.NoMemory finds = tt

pub stops : (task : Task) (query : Query) (fault : CnfFault) (stop : Stop) → stop ≡ stop_of query fault
    → (fault ≡ faults.TooLarge → IsFinding task.netlist.now task.unit.now task.directive.now task.options (Large query))
    → IsStopOf task stop
stops task query fault stop is finds = subst (IsStopOf task) (sym is) (stop-at task query fault finds)

-- the clauses and the variables of a kind are those of its query
kind-clauses : (design : Design) (unit : List Directive) (d : Directive) (visits window : ℕ) (initial : Truth)
    → query design (violation_of unit d) visits window initial ≡ clauses_of design unit d (kind_query visits window initial)
kind-clauses design unit d visits window true = refl
kind-clauses design unit d visits window false = refl

kind-variables : (design : Design) (unit : List Directive) (d : Directive) (visits window : ℕ) (initial : Truth)
    → query_variables design (violation_of unit d) visits window initial ≡ variables_of design unit d (kind_query visits window initial)
kind-variables design unit d visits window true = refl
kind-variables design unit d visits window false = refl

joint-clauses : (task : Task) (view : View) (joint : Joined) → IsJointOf task view.visits joint
    → query joint.design joint.automaton joint.visits view.window view.initial
    ≡ clauses_of task.netlist.now task.unit.now task.directive.now (view_query view)
joint-clauses task view joint is =
    ap (λ (j : Joined). query j.design j.automaton j.visits view.window view.initial) is
    ∙ kind-clauses task.netlist.now task.unit.now task.directive.now view.visits view.window view.initial

joint-variables : (task : Task) (view : View) (joint : Joined) → IsJointOf task view.visits joint
    → query_variables joint.design joint.automaton joint.visits view.window view.initial
    ≡ variables_of task.netlist.now task.unit.now task.directive.now (view_query view)
joint-variables task view joint is =
    ap (λ (j : Joined). query_variables j.design j.automaton j.visits view.window view.initial) is
    ∙ kind-variables task.netlist.now task.unit.now task.directive.now view.visits view.window view.initial

-- so the formula of the kind is that of the query
pub view-formula : (task : Task) (view : View) (joint : Joined) (formula : Cnf) → IsJointOf task view.visits joint
    → formula.variables ≡ query_variables joint.design joint.automaton joint.visits view.window view.initial
    → formula.clauses ≡ query joint.design joint.automaton joint.visits view.window view.initial
    → IsFormulaOf task.netlist.now task.unit.now task.directive.now (view_query view) formula
view-formula task view joint formula is variables clauses = record {
  variables = variables ∙ joint-variables task view joint is;
  clauses = clauses ∙ joint-clauses task view joint is;
}

pub view-large : (task : Task) (view : View) (joint : Joined) → IsJointOf task view.visits joint
    → IsTooLarge (query_variables joint.design joint.automaton joint.visits view.window view.initial)
    (query joint.design joint.automaton joint.visits view.window view.initial)
    → IsTooLarge (variables_of task.netlist.now task.unit.now task.directive.now (view_query view))
    (clauses_of task.netlist.now task.unit.now task.directive.now (view_query view))
view-large task view joint is large =
    subst (λ (cs : List (List ℤ)). IsTooLarge (variables_of task.netlist.now task.unit.now task.directive.now (view_query view)) cs)
    (joint-clauses task view joint is)
    (subst (λ (n : ℕ). IsTooLarge n (query joint.design joint.automaton joint.visits view.window view.initial)) (joint-variables task view joint is) large)

-- a model of the formula is one of the kind
pub view-model : (view : View) (joint : Joined) (formula : Cnf) (values : List Truth)
    → formula.clauses ≡ query joint.design joint.automaton joint.visits view.window view.initial → IsModelOf formula values
    → IsModel (values_of values) (query joint.design joint.automaton joint.visits view.window view.initial)
view-model view joint formula values clauses m =
    subst (λ (cs : List (List ℤ)). IsModel (values_of values) cs) clauses m.model

-- the path of a model is open
pub view-seen : (task : Task) (view : View) (joint : Joined) (path : JointPath) → IsJointOf task view.visits joint
    → IsOpen joint.design joint.automaton joint.visits view.window view.initial path → IsSeen task view path
view-seen task view joint path is =
    subst (λ (j : Joined). IsOpen j.design j.automaton j.visits view.window view.initial path) is

-- where the formula is refuted, no path of the kind is open
pub view-closed : (task : Task) (view : View) (joint : Joined) (formula : Cnf) (log : List LogEntry) → IsJointOf task view.visits joint
    → IsFormulaOf task.netlist.now task.unit.now task.directive.now (view_query view) formula
    → (HasModel formula.variables formula.clauses ↔ SomeOpen joint.design joint.automaton joint.visits view.window view.initial)
    → clause_words formula.clauses ≤ MOST_WORDS → IsRefutation formula task.options.steps log
    → IsRefuted task.netlist.now task.unit.now task.directive.now task.options.steps (view_query view) log
    × ((path : JointPath) → IsSeen task view path → ⊥)
view-closed task view joint formula log is f models small r = (
  refuted task.netlist.now task.unit.now task.directive.now task.options.steps (view_query view) formula log f small r,
  none-open task.netlist.now (violation_of task.unit.now task.directive.now) view.visits view.window view.initial formula log
      (subst (λ (j : Joined). HasModel formula.variables formula.clauses ↔ SomeOpen j.design j.automaton j.visits view.window view.initial) is models)
      r.refutes,
)

-- the joint states over the automaton of the violations
pub joint-of : (task : Task) (automaton : Automaton) (visits : ℕ) (joint : Joined) → automaton ≡ violation_of task.unit.now task.directive.now
    → joint ≡ record { design = task.netlist.now; automaton = automaton; visits = visits } → IsJointOf task visits joint
joint-of task automaton visits joint is made = subst (λ (a : Automaton). joint ≡ record { design = task.netlist.now; automaton = a; visits = visits }) is made
