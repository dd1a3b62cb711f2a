-- What is asked and found, of a task, and why a search ends at a query.
use Rattle.std.specs.Prelude.{ℕ, Bool as Truth, List}
use Rattle.clauses.specs.declared.cnf.Cnf.{Cnf}
use Rattle.clauses.specs.declared.flat.CnfFault.{CnfFault}
use Rattle.clauses.specs.declared.flat.CnfFault.TheVariants as faults
use Rattle.prover.specs.Findings.{IsFinding, IsHeldPath, IsSearchEnd, IsUndecided}
use Rattle.prover.specs.Queries.{ComesUp, IsFormulaOf, IsLookedAt, IsSought, IsTried}
use Rattle.prover.specs.Violating.{NoneBelow, Violates}
use Rattle.prover.specs.Windows.{StaysOpen}
use Rattle.prover.specs.declared.finding.Finding.{Finding}
use Rattle.prover.specs.declared.finding.Finding.TheVariants.{Large}
use Rattle.prover.specs.declared.finding.OpenPath.{OpenPath}
use Rattle.prover.specs.declared.finding.Query.{Query}
use Rattle.prover.specs.declared.finding.SearchEnd.{SearchEnd}
use Rattle.prover.specs.declared.stop.Stop.{Stop}
use Rattle.prover.specs.declared.stop.Stop.TheVariants as stops
use Rattle.prover.specs.declared.task.Task.{Task}
use Rattle.netlist.specs.declared.run.Run.{Run}

abbrev pub IsFindingFor : Task → Finding → Type 0
IsFindingFor task finding = IsFinding task.netlist.now task.unit.now task.directive.now task.options finding

abbrev pub ComesUpFor : Task → Query → Type 0
ComesUpFor task query = ComesUp task.netlist.now task.unit.now task.directive.now task.options query

abbrev pub IsSoughtFor : Task → ℕ → Type 0
IsSoughtFor task size = IsSought task.netlist.now task.unit.now task.directive.now task.options size

abbrev pub IsTriedFor : Task → ℕ → Type 0
IsTriedFor task size = IsTried task.netlist.now task.unit.now task.directive.now task.options size

abbrev pub IsHeldPathFor : Task → List (List Truth) → Type 0
IsHeldPathFor task path = IsHeldPath task.netlist.now task.unit.now task.directive.now task.options.depth path

abbrev pub IsSearchEndFor : Task → SearchEnd → Type 0
IsSearchEndFor task end = IsSearchEnd task.netlist.now task.unit.now task.directive.now task.options end

abbrev pub IsLookedAtFor : Task → ℕ → ℕ → Type 0
IsLookedAtFor task visits window =
    IsLookedAt task.netlist.now task.unit.now task.directive.now task.options visits window

abbrev pub IsFormulaFor : Task → Query → Cnf → Type 0
IsFormulaFor task query formula = IsFormulaOf task.netlist.now task.unit.now task.directive.now query formula

abbrev pub ViolatesFor : Task → Run → Type 0
ViolatesFor task run = Violates task.netlist.now task.unit.now task.directive.now run

abbrev pub NoneBelowFor : Task → ℕ → Type 0
NoneBelowFor task size = NoneBelow task.netlist.now task.unit.now task.directive.now size

abbrev pub StaysOpenFor : Task → ℕ → ℕ → Type 0
StaysOpenFor task count window = StaysOpen task.netlist.now task.unit.now task.directive.now count window

abbrev pub IsUndecidedFor : Task → List OpenPath → Type 0
IsUndecidedFor task paths = IsUndecided task.netlist.now task.unit.now task.directive.now task.options paths

-- what is found is found with its evidence
abbrev pub IsStopOf : Task → Stop → Type 0
IsStopOf task (stops.Found finding) = IsFindingFor task finding
IsStopOf task stops.NoMemory = Unit {0}

-- why the search ends where there is no formula of a query
abbrev pub stop_of : Query → CnfFault → Stop
stop_of query faults.TooLarge = stops.Found (Large query)
stop_of query faults.NoMemory = stops.NoMemory
