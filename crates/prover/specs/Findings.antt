-- What each finding says, and by which evidence.
use Rattle.std.specs.Prelude.{◌≡◌, ◌≤◌, ℕ, suc, Bool as Truth, true, false, List, length}
use Rattle.cdcl.specs.Answers.{IsSpent, IsFull}
use Rattle.clauses.specs.declared.cnf.Cnf.{Cnf}
use Rattle.gates_frames.specs.Paths.{IsPath}
use Rattle.gates_theory.specs.Sizes.{IsTooLarge}
use Rattle.netlist.specs.Design.{Design}
use Rattle.netlist.specs.declared.run.Run.{Run}
use Rattle.psl_tree.specs.declared.directive.Directive.{Directive}
use Rattle.bounded_theory.specs.Found.{run_size}
use Rattle.prover_held.specs.Held.{IsHeldRun}
use Rattle.reach.specs.declared.answer.Reached.{Reached}
use Rattle.prover.specs.Ends.{AreEnds}
use Rattle.prover.specs.Proving.{IsProved, IsProvedReach}
use Rattle.prover.specs.Queries.{ComesUp, IsFormulaOf, IsTried, clauses_of, variables_of}
use Rattle.prover.specs.Violating.{NoneBelow, Violates}
use Rattle.prover.specs.Windows.{AreOpenPaths}
use Rattle.prover.specs.declared.finding.Finding.{Finding}
use Rattle.prover.specs.declared.finding.Finding.TheVariants as findings
use Rattle.prover.specs.declared.finding.OpenPath.{OpenPath}
use Rattle.prover.specs.declared.finding.Query.TheVariants.{Search}
use Rattle.prover.specs.declared.finding.SearchEnd.{SearchEnd}
use Rattle.prover.specs.declared.finding.SearchEnd.TheVariants as ends
use Rattle.prover.specs.declared.options.Options.{Options}

-- a shortest run that violates what is owed, within the depth
pub record IsShortest (design : Design) (unit : List Directive) (directive : Directive) (depth : ℕ)
    (run : Run) : Type 0 where
  pub is : Violates design unit directive run
  pub within : run_size run ≤ depth
  pub none_below : NoneBelow design unit directive (run_size run)

-- no run within the depth violates what is owed, and for each number of visits a path is open at the window of that
-- depth
pub record IsUndecided (design : Design) (unit : List Directive) (directive : Directive)
    (options : Options) (paths : List OpenPath) : Type 0 where
  pub none_within : NoneBelow design unit directive (suc options.depth)
  pub each_open : AreOpenPaths design unit directive (suc options.visits) options.depth paths

-- the same, and for each number of visits the search for inductive clauses ends without any
pub record IsUndecidedReach (design : Design) (unit : List Directive) (directive : Directive)
    (options : Options) (paths : List OpenPath) (ends : List Reached) : Type 0 where
  pub asked : options.reach ≡ true
  pub undecided : IsUndecided design unit directive options paths
  pub each_end : AreEnds design unit directive options (suc options.visits) ends

-- A path from an initial valuation, within the depth, behind which the inputs are held: each run that begins with it and
-- then holds them violates what is owed, and there is one.
pub record IsHeldPath (design : Design) (unit : List Directive) (directive : Directive) (depth : ℕ)
    (path : List (List Truth)) : Type 0 where
  pub is : IsPath design true path
  pub within : length path ≤ depth
  pub some : (run : Run) × IsHeldRun design path run
  pub violates : (run : Run) → IsHeldRun design path run → Violates design unit directive run

-- How the search for a run whose loop closes ends that finds none: no run within the depth violates what is owed, or at
-- some size, below which none does, the solver tells nothing.
abbrev pub IsSearchEnd : Design → List Directive → Directive → Options → SearchEnd → Type 0
IsSearchEnd design unit directive options ends.Whole = NoneBelow design unit directive (suc options.depth)
IsSearchEnd design unit directive options (ends.Steps size log) =
    IsTried design unit directive options size
    × (formula : Cnf) × IsFormulaOf design unit directive (Search size) formula × IsSpent formula options.steps log
IsSearchEnd design unit directive options (ends.LogFull size log) =
    IsTried design unit directive options size
    × (formula : Cnf) × IsFormulaOf design unit directive (Search size) formula × IsFull formula options.steps log
IsSearchEnd design unit directive options (ends.Large size) =
    IsTried design unit directive options size
    × IsTooLarge (variables_of design unit directive (Search size)) (clauses_of design unit directive (Search size))

-- a path behind which holding the inputs violates what is owed, and how the search for a run whose loop closes ends
pub record IsHeld (design : Design) (unit : List Directive) (directive : Directive) (options : Options)
    (path : List (List Truth)) (end : SearchEnd) : Type 0 where
  pub path_is : IsHeldPath design unit directive options.depth path
  pub search : IsSearchEnd design unit directive options end

-- a finding with its evidence
abbrev pub IsFinding : Design → List Directive → Directive → Options → Finding → Type 0
IsFinding design unit directive options (findings.Proved certificate) =
    IsProved design unit directive options certificate
IsFinding design unit directive options (findings.ProvedReach certificate) =
    IsProvedReach design unit directive options certificate
IsFinding design unit directive options (findings.Violated run) = IsShortest design unit directive options.depth run
IsFinding design unit directive options (findings.Held path end) = IsHeld design unit directive options path end
IsFinding design unit directive options (findings.Depth paths) =
    (options.reach ≡ false) × IsUndecided design unit directive options paths
IsFinding design unit directive options (findings.DepthReach paths ends) =
    IsUndecidedReach design unit directive options paths ends
IsFinding design unit directive options (findings.Steps query log) =
    ComesUp design unit directive options query
    × (formula : Cnf) × IsFormulaOf design unit directive query formula × IsSpent formula options.steps log
IsFinding design unit directive options (findings.LogFull query log) =
    ComesUp design unit directive options query
    × (formula : Cnf) × IsFormulaOf design unit directive query formula × IsFull formula options.steps log
IsFinding design unit directive options (findings.Large query) =
    ComesUp design unit directive options query
    × IsTooLarge (variables_of design unit directive query) (clauses_of design unit directive query)

-- which findings say that each run satisfies what is owed, which that some run does not, and which say neither
abbrev pub is_proved : Finding → Truth
is_proved (findings.Proved certificate) = true
is_proved (findings.ProvedReach certificate) = true
is_proved (findings.Violated run) = false
is_proved (findings.Held path end) = false
is_proved (findings.Depth paths) = false
is_proved (findings.DepthReach paths ends) = false
is_proved (findings.Steps query log) = false
is_proved (findings.LogFull query log) = false
is_proved (findings.Large query) = false

abbrev pub is_violated : Finding → Truth
is_violated (findings.Proved certificate) = false
is_violated (findings.ProvedReach certificate) = false
is_violated (findings.Violated run) = true
is_violated (findings.Held path end) = true
is_violated (findings.Depth paths) = false
is_violated (findings.DepthReach paths ends) = false
is_violated (findings.Steps query log) = false
is_violated (findings.LogFull query log) = false
is_violated (findings.Large query) = false

abbrev pub is_undecided : Finding → Truth
is_undecided (findings.Proved certificate) = false
is_undecided (findings.ProvedReach certificate) = false
is_undecided (findings.Violated run) = false
is_undecided (findings.Held path end) = false
is_undecided (findings.Depth paths) = true
is_undecided (findings.DepthReach paths ends) = true
is_undecided (findings.Steps query log) = true
is_undecided (findings.LogFull query log) = true
is_undecided (findings.Large query) = true
