-- The signals whose values are shown of a run.
use Rattle.std.specs.Prelude.{◌≡◌, ◌<◌, Bool as Truth, List, map, length, Some, All}
use Rattle.netlist.specs.Design.{Design, free_of}
use Rattle.psl_tree.specs.Names.{first_name}
use Rattle.psl_tree.specs.declared.name.Name.{Name}
use Rattle.prover.specs.declared.finding.Finding.{Finding}
use Rattle.prover.specs.declared.finding.Finding.TheVariants as findings
use Rattle.findings.specs.declared.entry.FindingEntry.{FindingEntry}

-- the first names of the inputs and then of the outputs of the latches, in the order in which the netlist lists them
abbrev pub AreColumns : Design → List Name → Type 0
AreColumns design columns = map (λ column. Some column) columns ≡ map (first_name design.names) (free_of design)

-- a valuation has a value for the signal of each column
abbrev pub HasColumns : List Name → List Truth → Type 0
HasColumns columns valuation = All (λ column. column.signal < length valuation) columns

-- each valuation of a run that is shown has one
abbrev pub ShowsColumns : List Name → Finding → Type 0
ShowsColumns columns (findings.Violated run) = All (HasColumns columns) run.stem × All (HasColumns columns) run.loop_part
ShowsColumns columns (findings.Held path end) = All (HasColumns columns) path
ShowsColumns columns (findings.Proved certificate) = Unit {0}
ShowsColumns columns (findings.ProvedReach certificate) = Unit {0}
ShowsColumns columns (findings.Depth paths) = Unit {0}
ShowsColumns columns (findings.DepthReach paths ends) = Unit {0}
ShowsColumns columns (findings.Steps query log) = Unit {0}
ShowsColumns columns (findings.LogFull query log) = Unit {0}
ShowsColumns columns (findings.Large query) = Unit {0}

abbrev pub ShowColumns : List Name → List FindingEntry → Type 0
ShowColumns columns entries = All (λ entry. ShowsColumns columns entry.finding) entries
