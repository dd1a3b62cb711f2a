-- What `prove UNIT NETLIST` gives: a finding for each directive of the text that is asked, on the netlist.
use Rattle.std.specs.Prelude.{◌≡◌, ℕ, List, Option, Result, Ok, Err, option_map}
use Rattle.command_line.specs.Evidences.{Wanted}
use Rattle.command_line.specs.declared.Limits.{Limits}
use Rattle.findings.specs.Columns.{AreColumns}
use Rattle.findings.specs.Entries.{AreFindings}
use Rattle.findings.specs.Recordings.{Form}
use Rattle.findings.specs.Sizes.{AreWithin, IsFirstRefused}
use Rattle.netlist.specs.Design.{Design}
use Rattle.psl_tree.specs.declared.limit.Limit.{Limit}
use Rattle.prover.specs.declared.options.Options.{Options}
use Rattle.psl_base.specs.Shelf.{Contents}
use Rattle.psl_tree.specs.declared.directive.Directive.{Directive}
use Rattle.commands.specs.Diagnostics.{limit_fault}
use Rattle.commands.specs.Stages.{Then}
use Rattle.commands.specs.Waves.{SubjectStage}
use Rattle.commands.specs.declared.outcome.Fault.{Fault}
use Rattle.commands.specs.declared.prove.Found.{Found}
use Rattle.commands.specs.declared.subject.Subject.{Subject}

-- how far the words ask for a proof
abbrev pub options_of : Limits → Options
options_of limits = record { depth = limits.depth; visits = limits.visits; steps = limits.steps; reach = limits.reach }

-- which recordings are wanted
abbrev pub recordings_in : Wanted → Option Form
recordings_in wanted = option_map (λ (prefix : List ℕ). ((prefix, wanted.buses), wanted.loops)) wanted.vcd

-- what is found out of the directives of a text that are asked, and the names of the signals whose values are shown of a run
pub record IsFound (design : Design) (limits : Limits) (wanted : Wanted) (directives : List Directive) (found : Found) : Type 0 where
  pub findings : AreFindings design directives (options_of limits) limits.covers (recordings_in wanted) found.findings
  pub columns : AreColumns design found.columns

-- the same where all of these are within the limits; or the first that is too large
abbrev pub FoundReading : List ℕ → List ℕ → Limits → Wanted → Subject → Result Found Fault → Type 0
FoundReading unit netlist limits wanted subject (Ok found) =
    AreWithin subject.netlist limits.depth limits.covers subject.directives × IsFound subject.netlist limits wanted subject.directives found
FoundReading unit netlist limits wanted subject (Err fault) =
    (number : ℕ) × (limit : Limit) × IsFirstRefused subject.netlist limits.depth limits.covers subject.directives number limit
    × (fault ≡ limit_fault unit netlist subject.directives number limit)

-- `prove UNIT NETLIST`
abbrev pub ProveStage : List ℕ → List ℕ → Limits → Wanted → Contents → Result Found Fault → Type 0
ProveStage unit netlist limits wanted =
    Then (SubjectStage unit netlist) (λ subject files. FoundReading unit netlist limits wanted subject)
