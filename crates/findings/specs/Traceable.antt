-- Which netlists and texts have recordings of their runs.
use Rattle.std.specs.Prelude.{◌≤◌, ℕ, List, Option, None, Some, All}
use Rattle.findings.specs.Recordings.{Form}
use Rattle.netlist.specs.Design.{Design}
use Rattle.psl_tree.specs.Counts.{formula_size}
use Rattle.psl_tree.specs.Trees.{formula_of}
use Rattle.psl_tree.specs.declared.counts.TheConstants.{MOST_CONSTRUCTORS}
use Rattle.psl_tree.specs.declared.directive.Directive.{Directive}
use Rattle.trace.specs.Words.{HasWords}
use Rattle.vcd_reader.specs.Declarations.{bits_most}

-- the traces of its runs can be read: the first name of each signal is one word, and the signals are no more than the bits
-- of a recording
pub record HasTraces (design : Design) : Type 0 where
  pub words : HasWords design
  pub signals : design.signals ≤ bits_most

-- the same, the formulas of the directives are no larger than those of a text that is read, and a loop is written 16 times
-- at most
pub record IsTraceable (design : Design) (directives : List Directive) (loops : ℕ) : Type 0 where
  pub traces : HasTraces design
  pub small : All (λ directive. formula_size (formula_of directive.formula) ≤ MOST_CONSTRUCTORS) directives
  pub few : loops ≤ 16

-- the same where recordings are wanted
abbrev pub AreTraceable : Design → List Directive → Option Form → Type 0
AreTraceable design directives None = Unit {0}
AreTraceable design directives (Some (naming, loops)) = IsTraceable design directives loops
