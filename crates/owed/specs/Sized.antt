-- Which directives are within the limits of the formulas for a netlist.
use Rattle.std.specs.Prelude.{ℕ, suc, ◌+◌, ◌*◌, ◌<◌, ◌≤◌}
use Rattle.alternating.specs.Limits.{HasLargeSequence}
use Rattle.netlist.specs.Design.{Design, marks_of}
use Rattle.psl_tree.specs.Counts.{formula_size, obligations_of}
use Rattle.psl_tree.specs.Trees.{Formula}
use Rattle.psl_tree.specs.declared.counts.TheConstants.{MOST_OBLIGATIONS}
use Rattle.gates.specs.declared.limits.TheConstants.{MOST_WORK}
use Rattle.psl_tree.specs.declared.limit.Limit.{Limit}
use Rattle.psl_tree.specs.declared.limit.Limit.TheVariants as limits
use Rattle.psl_tree.specs.declared.limit.LimitFault.{LimitFault}
use Rattle.psl_tree.specs.declared.limit.LimitFault.TheVariants.{TooLarge, NoMemory}

-- how much of a netlist and a formula stands at each position
abbrev pub bulk_of : Design → Formula → ℕ
bulk_of design formula =
    design.signals + marks_of design.tables + obligations_of formula * obligations_of formula + formula_size formula

-- what formulas up to a depth or a window, which have one position more, take, as it is limited
abbrev pub work_of : Design → ℕ → Formula → ℕ
work_of design depth formula = suc depth * suc depth * bulk_of design formula

-- a formula is within the limits up to a depth or a window
pub record IsSized (design : Design) (depth : ℕ) (formula : Formula) : Type 0 where
  pub sequences : HasLargeSequence formula → ⊥
  pub obligations : obligations_of formula ≤ MOST_OBLIGATIONS
  pub unrolled : work_of design depth formula ≤ MOST_WORK

-- the first of these limits that it passes; how large the formulas are that are made of it is told elsewhere
abbrev pub IsRefused : Design → ℕ → Formula → Limit → Type 0
IsRefused design depth formula limits.Sere = HasLargeSequence formula
IsRefused design depth formula limits.Automaton =
    (HasLargeSequence formula → ⊥) × (MOST_OBLIGATIONS < obligations_of formula)
IsRefused design depth formula limits.Unroll =
    (HasLargeSequence formula → ⊥) × (obligations_of formula ≤ MOST_OBLIGATIONS) × (MOST_WORK < work_of design depth formula)
IsRefused design depth formula limits.Formula = ⊥

-- such a limit, or want of memory
abbrev pub MayRefuse : Design → ℕ → Formula → LimitFault → Type 0
MayRefuse design depth formula (TooLarge limit) = IsRefused design depth formula limit
MayRefuse design depth formula NoMemory = Unit {0}
