-- Runs that violate what is owed of a directive.
use Rattle.std.specs.Prelude.{◌≤◌, ℕ, List, None}
use Rattle.netlist.specs.Design.{Design}
use Rattle.netlist.specs.Runs.{IsRun, word}
use Rattle.netlist.specs.declared.run.Run.{Run}
use Rattle.psl_tree.specs.Satisfaction.{Sat}
use Rattle.psl_tree.specs.Trace.{trace_of}
use Rattle.psl_tree.specs.declared.directive.Directive.{Directive}
use Rattle.owed.specs.Owed.{owed}
use Rattle.bounded_theory.specs.Found.{run_size}

-- a run of the netlist whose word does not satisfy what is owed
pub record Violates (design : Design) (unit : List Directive) (directive : Directive) (run : Run) : Type 0 where
  pub is : IsRun design run
  pub violates : Sat (trace_of (word design run)) (owed unit directive) None → ⊥

-- each run that violates it has at least so many valuations
abbrev pub NoneBelow : Design → List Directive → Directive → ℕ → Type 0
NoneBelow design unit directive size = (run : Run) → Violates design unit directive run → size ≤ run_size run
