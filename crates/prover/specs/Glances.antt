-- What is told of the runs of one size or of another query, and how far a search has come.
use Rattle.std.specs.Prelude.{◌≡◌, ◌≤◌, ℕ, suc}
use Rattle.cdcl.specs.Answers.{IsSpent, IsFull}
use Rattle.clauses.specs.declared.cnf.Cnf.{Cnf}
use Rattle.gates_theory.specs.Sizes.{IsTooLarge}
use Rattle.netlist.specs.declared.run.Run.{Run}
use Rattle.bounded_theory.specs.Found.{run_size}
use Rattle.prover.specs.Queries.{clauses_of, variables_of}
use Rattle.prover.specs.Stops.{IsFormulaFor, NoneBelowFor, ViolatesFor}
use Rattle.prover.specs.declared.finding.Finding.{Finding}
use Rattle.prover.specs.declared.finding.Finding.TheVariants as findings
use Rattle.prover.specs.declared.finding.Query.{Query}
use Rattle.prover.specs.declared.finding.Query.TheVariants.{Search}
use Rattle.prover.specs.declared.finding.SearchEnd.{SearchEnd}
use Rattle.prover.specs.declared.finding.SearchEnd.TheVariants as ends
use Rattle.prover.specs.declared.glance.Glance.{Glance}
use Rattle.prover.specs.declared.glance.Glance.TheVariants as glances
use Rattle.prover.specs.declared.glance.Untold.{Untold}
use Rattle.prover.specs.declared.glance.Untold.TheVariants as untolds
use Rattle.prover.specs.declared.searching.Progress.{Progress}
use Rattle.prover.specs.declared.searching.Progress.TheVariants as progress
use Rattle.prover.specs.declared.searching.Searched.{Searched}
use Rattle.prover.specs.declared.task.Task.{Task}

-- a run of that size that violates what is owed
pub record IsOfSize (task : Task) (size : ℕ) (run : Run) : Type 0 where
  pub violates : ViolatesFor task run
  pub size_is : run_size run ≡ size

-- why nothing is told of a query with so many steps
abbrev pub IsUntold : Task → Query → ℕ → Untold → Type 0
IsUntold task query steps (untolds.Steps log) =
    (formula : Cnf) × IsFormulaFor task query formula × IsSpent formula steps log
IsUntold task query steps (untolds.LogFull log) =
    (formula : Cnf) × IsFormulaFor task query formula × IsFull formula steps log
IsUntold task query steps untolds.Large =
    IsTooLarge (variables_of task.netlist.now task.unit.now task.directive.now query)
    (clauses_of task.netlist.now task.unit.now task.directive.now query)

-- what a look at a size with so many steps tells
abbrev pub IsGlance : Task → ℕ → ℕ → Glance → Type 0
IsGlance task size steps (glances.Violates run) = IsOfSize task size run
IsGlance task size steps (glances.Holds lemmas) = NoneBelowFor task (suc size)
IsGlance task size steps (glances.Nothing untold) = IsUntold task (Search size) steps untold

-- what is found where nothing is told of a query, and how a search ends where nothing is told of a size
abbrev pub finding_of : Query → Untold → Finding
finding_of query (untolds.Steps log) = findings.Steps query log
finding_of query (untolds.LogFull log) = findings.LogFull query log
finding_of query untolds.Large = findings.Large query

abbrev pub end_of : ℕ → Untold → SearchEnd
end_of size (untolds.Steps log) = ends.Steps size log
end_of size (untolds.LogFull log) = ends.LogFull size log
end_of size untolds.Large = ends.Large size

-- no run of at most so many valuations violates what is owed
abbrev pub IsSearched : Task → Searched → Type 0
IsSearched task searched = NoneBelowFor task (suc searched.none_within)

-- the same, for at least so many
pub record IsSearchedTo (task : Task) (size : ℕ) (searched : Searched) : Type 0 where
  pub reaches : size ≤ searched.none_within
  pub none : IsSearched task searched

-- how far it comes that goes on from a size: to that one at least, or nothing is told of it with all the steps
abbrev pub IsProgress : Task → ℕ → Progress → Type 0
IsProgress task size (progress.Reached searched) = IsSearchedTo task size searched
IsProgress task size (progress.Nothing untold) = IsUntold task (Search size) task.options.steps untold
