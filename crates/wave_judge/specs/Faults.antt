-- Why a unit is not judged: the first directive whose automaton would be too large.
use Rattle.std.specs.Prelude.{◌≡◌, ◌≤◌, ℕ, List, Some, None, All, take, slice_get}
use Rattle.alternating.specs.Limits.{HasLargeSequence, PassesFirst}
use Rattle.psl_tree.specs.Plain.{plain}
use Rattle.psl_tree.specs.Counts.{obligations_of}
use Rattle.psl_tree.specs.declared.counts.TheConstants.{MOST_OBLIGATIONS}
use Rattle.psl_tree.specs.declared.directive.Directive.{Directive}
use Rattle.psl_tree.specs.Trees.{Formula, formula_of}
use Rattle.psl_tree.specs.declared.limit.Limit.{Limit}
use Rattle.psl_tree.specs.declared.limit.UnitFault.{UnitFault}
use Rattle.psl_tree.specs.declared.limit.UnitFault.TheVariants.{TooLarge, NoMemory}

-- the directive's formula with its clocks rewritten away, where no clock is in force
abbrev pub unclocked : Directive → Formula
unclocked directive = plain (formula_of directive.formula) None

-- the unclocked formula has no sequence that counts too many states, and counts no more obligations than it may
pub record IsJudgeable (directive : Directive) : Type 0 where
  pub sequences : HasLargeSequence (unclocked directive) → ⊥
  pub obligations : obligations_of (unclocked directive) ≤ MOST_OBLIGATIONS

-- the directive has that number, and its unclocked formula passes that limit first
abbrev pub IsRefused : Directive → ℕ → Limit → Type 0
IsRefused directive number limit = (number ≡ directive.number) × PassesFirst (unclocked directive) limit

-- so it is with a directive before which each one can be judged
pub record IsFirstRefused (unit : List Directive) (number : ℕ) (limit : Limit) : Type 0 where
  pub place : ℕ
  pub directive : Directive
  pub here : slice_get unit place ≡ Some directive
  pub before : All IsJudgeable (take place unit)
  pub refused : IsRefused directive number limit

-- a fault that the unit may be answered with: want of memory, or that of the first directive past a limit
abbrev pub IsJudgeFault : List Directive → UnitFault → Type 0
IsJudgeFault unit (TooLarge number limit) = IsFirstRefused unit number limit
IsJudgeFault unit NoMemory = Unit {0}

-- the same of one directive
abbrev pub MayRefuse : Directive → UnitFault → Type 0
MayRefuse directive (TooLarge number limit) = IsRefused directive number limit
MayRefuse directive NoMemory = Unit {0}
