-- Paths behind which holding the inputs violates what is owed, and how the search for runs ends beside them.
use Rattle.std.proofs.Common.{◌≡◌, sym, subst, ◌≤◌, ℕ, Bool as Truth, true, List, length}
use Rattle.alternating_theory.specs.Acceptance.{Accepts}
use Rattle.alternating_theory.specs.Obligations.{Automaton}
use Rattle.gates_frames.specs.Paths.{IsPath}
use Rattle.netlist.specs.Design.{Design}
use Rattle.netlist.specs.Runs.{word}
use Rattle.netlist.specs.declared.run.Run.{Run}
use Rattle.owed.proofs.Violating.{violating-runs}
use Rattle.owed.specs.Violations.{violation_of}
use Rattle.prover_held.specs.Held.{IsHeldRun}
use Rattle.psl_tree.specs.declared.directive.Directive.{Directive}
use Rattle.prover.specs.Findings.{IsHeldPath}
use Rattle.prover.specs.Glances.{IsUntold, end_of, finding_of}
use Rattle.prover.specs.Queries.{IsSought, IsTried}
use Rattle.prover.specs.Stops.{ComesUpFor, IsFindingFor, IsSearchEndFor, IsTriedFor}
use Rattle.prover.specs.Violating.{NoneBelow}
use Rattle.prover.specs.declared.finding.Finding.{Finding}
use Rattle.prover.specs.declared.finding.Query.{Query}
use Rattle.prover.specs.declared.finding.Query.TheVariants.{Search}
use Rattle.prover.specs.declared.finding.SearchEnd.{SearchEnd}
use Rattle.prover.specs.declared.glance.Untold.{Untold}
use Rattle.prover.specs.declared.glance.Untold.TheVariants as untolds
use Rattle.prover.specs.declared.options.Options.{Options}
use Rattle.prover.specs.declared.task.Task.{Task}

-- where the automaton of the violations accepts each run that holds its inputs behind a path, each of them is a violation
pub held-path : (design : Design) (unit : List Directive) (d : Directive) (depth : ℕ) (automaton : Automaton) (path : List (List Truth))
    → automaton ≡ violation_of unit d → IsPath design true path → length path ≤ depth → ((run : Run) × IsHeldRun design path run)
    → ((run : Run) → IsHeldRun design path run → Accepts automaton (word design run)) → IsHeldPath design unit d depth path
held-path design unit d depth automaton path same is within some accepts = record {
  is = is;
  within = within;
  some = some;
  violates = λ run held. record {
    is = held.is;
    violates = (violating-runs design unit d run held.is.loops).accepts.0
        (subst (λ (a : Automaton). Accepts a (word design run)) same (accepts run held));
  };
}

-- a search that comes up is tried
pub sought-tried : (design : Design) (unit : List Directive) (d : Directive) (options : Options) (size : ℕ)
    → IsSought design unit d options size → IsTried design unit d options size
sought-tried design unit d options size sought = record {
  some = sought.some;
  within = sought.within;
  none_below = sought.none_below;
}

-- a size is tried where no run of a smaller one violates what is owed
pub tried : (design : Design) (unit : List Directive) (d : Directive) (options : Options) (size : ℕ)
    → 1 ≤ size → size ≤ options.depth → NoneBelow design unit d size → IsTried design unit d options size
tried design unit d options size some within none = record { some = some; within = within; none_below = none }

-- where nothing is told of a query that comes up, that is what is found
untold-at : (task : Task) (query : Query) (untold : Untold) → ComesUpFor task query → IsUntold task query task.options.steps untold
    → IsFindingFor task (finding_of query untold)
untold-at task query (untolds.Steps log) comes told = (comes, told.0, told.1, told.2)
untold-at task query (untolds.LogFull log) comes told = (comes, told.0, told.1, told.2)
untold-at task query untolds.Large comes told = (comes, told)

pub untold-finding : (task : Task) (query : Query) (untold : Untold) (finding : Finding) → finding ≡ finding_of query untold
    → ComesUpFor task query → IsUntold task query task.options.steps untold → IsFindingFor task finding
untold-finding task query untold finding same comes told = subst (IsFindingFor task) (sym same) (untold-at task query untold comes told)

-- and where nothing is told of a size, how a search ends
end-at : (task : Task) (size : ℕ) (untold : Untold) → IsTriedFor task size → IsUntold task (Search size) task.options.steps untold
    → IsSearchEndFor task (end_of size untold)
end-at task size (untolds.Steps log) tries told = (tries, told.0, told.1, told.2)
end-at task size (untolds.LogFull log) tries told = (tries, told.0, told.1, told.2)
end-at task size untolds.Large tries told = (tries, told)

pub untold-end : (task : Task) (size : ℕ) (untold : Untold) (end : SearchEnd) → end ≡ end_of size untold
    → IsTriedFor task size → IsUntold task (Search size) task.options.steps untold → IsSearchEndFor task end
untold-end task size untold end same tries told = subst (IsSearchEndFor task) (sym same) (end-at task size untold tries told)
