-- What proves a directive.
use Rattle.std.specs.Prelude.{◌≡◌, ◌+◌, ◌<◌, ◌≤◌, ℕ, true, List, None}
use Rattle.cdcl.specs.Evidence.{IsTidy}
use Rattle.cert_theory.specs.declared.certificate.Certificate.{Certificate}
use Rattle.cert_theory.specs.declared.certificate.InductiveCert.{InductiveCert}
use Rattle.gates_theory.specs.Sizes.{IsTooLarge}
use Rattle.clauses.specs.Literals.{clause_words}
use Rattle.clauses.specs.Logs.{LogEntry, Refutes, lemmas, log_words}
use Rattle.clauses.specs.declared.log.TheConstants.{MOST_LOG_WORDS}
use Rattle.netlist.specs.Design.{Design}
use Rattle.netlist.specs.Runs.{IsRun, word}
use Rattle.netlist.specs.declared.run.Run.{Run}
use Rattle.owed.specs.Owed.{owed}
use Rattle.psl_tree.specs.Satisfaction.{Sat}
use Rattle.psl_tree.specs.Trace.{trace_of}
use Rattle.psl_tree.specs.declared.directive.Directive.{Directive}
use Rattle.reach.specs.Answers.{AreInductive}
use Rattle.reach.specs.declared.answer.Reached.{Reached}
use Rattle.prover.specs.Ends.{joint_of, IsEnd}
use Rattle.prover.specs.Queries.{clauses_of, variables_of}
use Rattle.prover.specs.declared.finding.Query.{Query}
use Rattle.prover.specs.declared.finding.Query.TheVariants.{Base, Induction}
use Rattle.prover.specs.declared.options.Options.{Options}

-- a log of the solver refutes the formula of a query, which is not too large
pub record IsRefuted (design : Design) (unit : List Directive) (directive : Directive) (steps : ℕ)
    (query : Query) (log : List LogEntry) : Type 0 where
  pub fits : IsTooLarge (variables_of design unit directive query) (clauses_of design unit directive query) → ⊥
  pub refutes : Refutes (variables_of design unit directive query) (clauses_of design unit directive query) log
  pub words : clause_words (clauses_of design unit directive query) + log_words log ≤ MOST_LOG_WORDS
  pub few : lemmas log ≤ steps
  pub tidy : IsTidy (clauses_of design unit directive query) log

-- The certificate refutes the base and the induction for its visits at its window, which are within the options, and
-- each run of the netlist satisfies what is owed of the directive.
pub record IsProved (design : Design) (unit : List Directive) (directive : Directive) (options : Options)
    (certificate : Certificate) : Type 0 where
  pub number : certificate.assertion ≡ directive.number
  pub visits : certificate.visits ≤ options.visits
  pub some : 1 ≤ certificate.window
  pub within : certificate.window ≤ options.depth
  pub base : IsRefuted design unit directive options.steps (Base certificate.visits certificate.window) certificate.base
  pub induction : IsRefuted design unit directive options.steps
      (Induction certificate.visits certificate.window) certificate.induction
  pub satisfied : (run : Run) → IsRun design run → Sat (trace_of (word design run)) (owed unit directive) None

-- The clauses of the certificate are about the state bits and inductive, for its visits, which are within the options: its
-- logs refute that some initial state misses one, that some step leads out of them, and that some bad state meets them.
-- For fewer visits the search for such clauses ends without any. Each run of the netlist satisfies what is owed of the
-- directive.
pub record IsProvedReach (design : Design) (unit : List Directive) (directive : Directive) (options : Options)
    (certificate : InductiveCert) : Type 0 where
  pub asked : options.reach ≡ true
  pub number : certificate.assertion ≡ directive.number
  pub visits : certificate.visits ≤ options.visits
  pub inductive : AreInductive (joint_of design unit directive certificate.visits) options.steps certificate.clauses
      certificate.initial certificate.step certificate.bad
  pub fewer : (visits : ℕ) → visits < certificate.visits
      → (end : Reached) × IsEnd design unit directive options visits end
  pub satisfied : (run : Run) → IsRun design run → Sat (trace_of (word design run)) (owed unit directive) None
