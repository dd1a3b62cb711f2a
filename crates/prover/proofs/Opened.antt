-- Windows that are open for each number of visits, and those that are not for one.
use Rattle.std.proofs.Common.{◌≡◌, refl, ap, subst, ◌↔◌, ℕ, zero, suc, ◌+◌, ◌-◌, ◌*◌, ◌<◌, ◌≤◌, ℤ, Bool as Truth, true, false, List, [], ◌∷◌, ◌++◌, length, slice_get, ◌⊎◌, Some, None, inl, inr, arith}
use Rattle.alternating_theory.specs.Obligations.{Automaton}
use Rattle.cdcl.specs.Answers.{IsRefutation}
use Rattle.cdcl.specs.Evidence.{IsTidy}
use Rattle.gates_theory.specs.Sizes.{IsTooLarge}
use Rattle.clauses.proofs.Soundness.{no_model}
use Rattle.clauses.specs.Literals.{clause_words}
use Rattle.clauses.specs.Logs.{LogEntry, Refutes, log_words}
use Rattle.clauses.specs.declared.cnf.Cnf.{Cnf}
use Rattle.clauses.specs.declared.flat.TheConstants.{MOST_VARIABLES, MOST_WORDS}
use Rattle.clauses.specs.declared.log.TheConstants.{MOST_LOG_WORDS}
use Rattle.joint_theory.proofs.Soundness.{none-accepted}
use Rattle.joint_theory.specs.Paths.{IsClosedAt, IsOpen, SomeOpen}
use Rattle.joint_theory.specs.Queries.{joint_size}
use Rattle.joint_theory.specs.declared.path.JointPath.{JointPath}
use Rattle.netlist.specs.Design.{Design}
use Rattle.netlist.specs.Runs.{IsRun, word}
use Rattle.netlist.specs.declared.run.Run.{Run}
use Rattle.owed.proofs.Violating.{violating-runs}
use Rattle.owed.specs.Owed.{owed}
use Rattle.owed.specs.Violations.{violation_of}
use Rattle.psl_tree.specs.Satisfaction.{Sat}
use Rattle.psl_tree.specs.Trace.{trace_of}
use Rattle.psl_tree.specs.declared.directive.Directive.{Directive}
use Rattle.run_terms.specs.Formulas.{HasModel, values_of}
use Rattle.prover.specs.Proving.{IsProved, IsRefuted}
use Rattle.prover.specs.Queries.{IsFormulaOf, IsLookedAt, IsSought, clauses_of, variables_of}
use Rattle.prover.specs.Violating.{NoneBelow}
use Rattle.prover.specs.Windows.{StaysOpen}
use Rattle.prover.specs.declared.finding.Query.{Query}
use Rattle.prover.specs.declared.finding.Query.TheVariants.{Base, Induction}
use Rattle.prover.specs.declared.options.Options.{Options}

-- a formula of so few words is not too large
not-large : (formula : Cnf) → clause_words formula.clauses ≤ MOST_WORDS → IsTooLarge formula.variables formula.clauses → ⊥
not-large formula few (inl many) = omega (arith, many, formula.few)
not-large formula few (inr long) = omega (arith, long, few)

-- the log that refutes a formula refutes that of the query
pub refuted : (design : Design) (unit : List Directive) (d : Directive) (steps : ℕ) (query : Query) (formula : Cnf) (log : List LogEntry)
    → IsFormulaOf design unit d query formula → clause_words formula.clauses ≤ MOST_WORDS → IsRefutation formula steps log
    → IsRefuted design unit d steps query log
refuted design unit d steps query formula log is small r = record {
  fits = subst (λ (cs : List (List ℤ)). IsTooLarge (variables_of design unit d query) cs → ⊥) is.clauses
      (subst (λ (n : ℕ). IsTooLarge n formula.clauses → ⊥) is.variables (not-large formula small));
  refutes = subst (λ (cs : List (List ℤ)). Refutes (variables_of design unit d query) cs log) is.clauses
      (subst (λ (n : ℕ). Refutes n formula.clauses log) is.variables r.refutes);
  words = subst (λ (cs : List (List ℤ)). clause_words cs + log_words log ≤ MOST_LOG_WORDS) is.clauses r.words;
  few = r.few;
  tidy = subst (λ (cs : List (List ℤ)). IsTidy cs log) is.clauses r.tidy;
}

-- where the formula for the paths of a kind is refuted, none of them is open
pub none-open : (design : Design) (automaton : Automaton) (visits window : ℕ) (initial : Truth) (formula : Cnf) (log : List LogEntry)
    → (HasModel formula.variables formula.clauses ↔ SomeOpen design automaton visits window initial)
    → Refutes formula.variables formula.clauses log → (path : JointPath) → IsOpen design automaton visits window initial path → ⊥
none-open design automaton visits window initial formula log models refutes path is =
    let none : (HasModel formula.variables formula.clauses) → ⊥ =
    λ h. h (λ values size model. no_model (values_of values) formula.variables formula.clauses log formula.within refutes model) in
    none (models.1 (λ k. k path is))

-- where no path of either kind is open, the window is closed
pub closed-both : (design : Design) (automaton : Automaton) (visits window : ℕ)
    → ((path : JointPath) → IsOpen design automaton visits window true path → ⊥)
    → ((path : JointPath) → IsOpen design automaton visits window false path → ⊥) → IsClosedAt design automaton visits window
closed-both design automaton visits window base induction true = base
closed-both design automaton visits window base induction false = induction

-- then each run satisfies what is owed
pub all-satisfied : (design : Design) (unit : List Directive) (d : Directive) (visits window : ℕ)
    → IsClosedAt design (violation_of unit d) visits window
    → (run : Run) → IsRun design run → Sat (trace_of (word design run)) (owed unit d) None
all-satisfied design unit d visits window c run is =
    (violating-runs design unit d run is.loops).satisfied
    (none-accepted design (violation_of unit d) visits window c run is)

-- a member behind others stands at the place of their number
pub get-pushed : {A : Type 0} (xs : List A) (x y : A) (place : ℕ) → slice_get (xs ++ x ∷ []) place ≡ Some y
    → (slice_get xs place ≡ Some y) ⊎ ((place ≡ length xs) × (y ≡ x))
get-pushed [] x y zero e = inr (refl, cc)
get-pushed [] x y (suc place) e = absurd cc
get-pushed (z ∷ xs) x y zero e = inl e
get-pushed (z ∷ xs) x y (suc place) e = elim (get-pushed xs x y place e) [
  | inl there ↦ inl there
  | inr last ↦ inr (ap suc last.0, last.1)
]

-- a window is looked at for the next number of visits, once paths are open for those before
pub next-look : (design : Design) (unit : List Directive) (d : Directive) (options : Options) (visits window : ℕ)
    → IsLookedAt design unit d options 0 window → visits ≤ options.visits → StaysOpen design unit d visits window
    → IsLookedAt design unit d options visits window
next-look design unit d options visits window first few stays = record {
  some = first.some;
  within = first.within;
  few = few;
  none_within = first.none_within;
  before = first.before;
  fewer = stays;
}

-- a window is looked at once the search for runs of its size found none
pub first-look : (design : Design) (unit : List Directive) (d : Directive) (options : Options) (window : ℕ)
    → IsSought design unit d options window → NoneBelow design unit d (suc window) → IsLookedAt design unit d options 0 window
first-look design unit d options window sought none = record {
  some = sought.some;
  within = sought.within;
  few = omega arith;
  none_within = none;
  before = sought.before;
  fewer = λ visits below. absurd (omega (arith, below));
}

-- a search is sought where those before it found none and the windows before it are open
pub sought : (design : Design) (unit : List Directive) (d : Directive) (options : Options) (size : ℕ)
    → 1 ≤ size → size ≤ options.depth → NoneBelow design unit d size
    → (1 < size → StaysOpen design unit d (suc options.visits) (size - 1)) → IsSought design unit d options size
sought design unit d options size some within none stays = record {
  some = some;
  within = within;
  none_below = none;
  before = stays;
}

-- each run has a valuation
pub none-below-one : (design : Design) (unit : List Directive) (d : Directive) → NoneBelow design unit d 1
none-below-one design unit d run v = omega (arith, v.is.loops)

-- a circuit that is too large makes the formula of the base too large
more : (m s w : ℕ) → m < s → 1 ≤ w → m < w * s
more m s zero l some = absurd (omega (arith, some))
more m s (suc w) l some = grind (arith, l)

pub base-large : (design : Design) (unit : List Directive) (d : Directive) (automaton : Automaton) (visits window : ℕ)
    → automaton ≡ violation_of unit d → 1 ≤ window → MOST_VARIABLES < joint_size design automaton visits
    → IsTooLarge (variables_of design unit d (Base visits window)) (clauses_of design unit d (Base visits window))
base-large design unit d automaton visits window is some large =
    inl (more MOST_VARIABLES (joint_size design (violation_of unit d) visits) window
    (subst (λ (a : Automaton). MOST_VARIABLES < joint_size design a visits) is large) some)

-- the certificate of both refutations
pub proved : (design : Design) (unit : List Directive) (d : Directive) (options : Options) (visits window : ℕ) (base induction : List LogEntry)
    → IsLookedAt design unit d options visits window
    → IsRefuted design unit d options.steps (Base visits window) base
    → IsRefuted design unit d options.steps (Induction visits window) induction
    → ((path : JointPath) → IsOpen design (violation_of unit d) visits window true path → ⊥)
    → ((path : JointPath) → IsOpen design (violation_of unit d) visits window false path → ⊥)
    → IsProved design unit d options (record { assertion = d.number; visits = visits; window = window; base = base; induction = induction })
proved design unit d options visits window base induction look b i none others = record {
  number = refl;
  visits = look.few;
  some = look.some;
  within = look.within;
  base = b;
  induction = i;
  satisfied = all-satisfied design unit d visits window (closed-both design (violation_of unit d) visits window none others);
}
