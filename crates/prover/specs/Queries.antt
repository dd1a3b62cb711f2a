-- The formulas that a prover asks the solver about, and when it does.
use Rattle.std.specs.Prelude.{◌≡◌, ◌-◌, ◌<◌, ◌≤◌, ℕ, suc, ℤ, true, List}
use Rattle.clauses.specs.declared.cnf.Cnf.{Cnf}
use Rattle.joint_theory.specs.Paths.{IsOpen}
use Rattle.joint_theory.specs.Queries.{base, base_variables, induction, induction_variables}
use Rattle.joint_theory.specs.declared.path.JointPath.{JointPath}
use Rattle.netlist.specs.Design.{Design}
use Rattle.psl_tree.specs.declared.directive.Directive.{Directive}
use Rattle.owed.specs.Violations.{violation_of}
use Rattle.bounded.specs.Searches.{search_clauses, search_variables}
use Rattle.prover.specs.Violating.{NoneBelow}
use Rattle.prover.specs.Windows.{StaysOpen}
use Rattle.prover.specs.declared.finding.Query.{Query}
use Rattle.prover.specs.declared.finding.Query.TheVariants.{Search, Base, Induction}
use Rattle.prover.specs.declared.options.Options.{Options}

-- the formula of a query: whether some run of so many valuations violates what is owed, or some path of a kind is open
abbrev pub clauses_of : Design → List Directive → Directive → Query → List (List ℤ)
clauses_of design unit directive (Search size) = search_clauses design (violation_of unit directive) size
clauses_of design unit directive (Base visits window) = base design (violation_of unit directive) visits window
clauses_of design unit directive (Induction visits window) =
    induction design (violation_of unit directive) visits window

abbrev pub variables_of : Design → List Directive → Directive → Query → ℕ
variables_of design unit directive (Search size) = search_variables design (violation_of unit directive) size
variables_of design unit directive (Base visits window) =
    base_variables design (violation_of unit directive) visits window
variables_of design unit directive (Induction visits window) =
    induction_variables design (violation_of unit directive) visits window

pub record IsFormulaOf (design : Design) (unit : List Directive) (directive : Directive) (query : Query)
    (formula : Cnf) : Type 0 where
  pub variables : formula.variables ≡ variables_of design unit directive query
  pub clauses : formula.clauses ≡ clauses_of design unit directive query

-- a search for runs of a size within the depth, once no run of a smaller size violates what is owed
pub record IsTried (design : Design) (unit : List Directive) (directive : Directive) (options : Options)
    (size : ℕ) : Type 0 where
  pub some : 1 ≤ size
  pub within : size ≤ options.depth
  pub none_below : NoneBelow design unit directive size

-- a search that comes up within the depth: those before it were answered, so no shorter run violates what is owed, and
-- no window before it was closed
pub record IsSought (design : Design) (unit : List Directive) (directive : Directive) (options : Options)
    (size : ℕ) : Type 0 where
  pub some : 1 ≤ size
  pub within : size ≤ options.depth
  pub none_below : NoneBelow design unit directive size
  pub before : 1 < size → StaysOpen design unit directive (suc options.visits) (size - 1)

-- a window that is looked at for some visits: no run of at most so many valuations violates what is owed, the window
-- before it was not closed, and with fewer visits this one was not closed either
pub record IsLookedAt (design : Design) (unit : List Directive) (directive : Directive) (options : Options)
    (visits window : ℕ) : Type 0 where
  pub some : 1 ≤ window
  pub within : window ≤ options.depth
  pub few : visits ≤ options.visits
  pub none_within : NoneBelow design unit directive (suc window)
  pub before : 1 < window → StaysOpen design unit directive (suc options.visits) (window - 1)
  pub fewer : StaysOpen design unit directive visits window

-- a query that comes up; with that of an induction, no path of the initial kind is open
abbrev pub ComesUp : Design → List Directive → Directive → Options → Query → Type 0
ComesUp design unit directive options (Search size) = IsSought design unit directive options size
ComesUp design unit directive options (Base visits window) = IsLookedAt design unit directive options visits window
ComesUp design unit directive options (Induction visits window) =
    IsLookedAt design unit directive options visits window
    × ((path : JointPath) → IsOpen design (violation_of unit directive) visits window true path → ⊥)
