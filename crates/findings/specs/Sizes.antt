-- Whether the directives of a text that are asked are within the limits of a search up to a depth, and the first that is
-- not.
use Rattle.std.specs.Prelude.{◌≡◌, ℕ, Bool as Truth, true, List, Some, All, take, slice_get}
use Rattle.netlist.specs.Design.{Design}
use Rattle.owed.specs.Owed.{is_asked, plain_owed}
use Rattle.psl_tree.specs.declared.directive.Directive.{Directive}
use Rattle.owed.specs.Sized as sized
use Rattle.owed.specs.Sized.{IsSized}
use Rattle.psl_tree.specs.declared.limit.Limit.{Limit}
use Rattle.psl_tree.specs.declared.limit.UnitFault.{UnitFault}
use Rattle.psl_tree.specs.declared.limit.UnitFault.TheVariants.{TooLarge, NoMemory}

-- what is owed of the directive, if it is asked, is within the limits
abbrev pub IsWithin : Design → ℕ → Truth → List Directive → Directive → Type 0
IsWithin design depth covers unit directive =
    is_asked covers directive.kind ≡ true → IsSized design depth (plain_owed unit directive)

abbrev pub AreWithin : Design → ℕ → Truth → List Directive → Type 0
AreWithin design depth covers unit = All (IsWithin design depth covers unit) unit

-- the directive has that number, and what is owed of it passes the limit, and none before it
abbrev pub IsRefused : Design → ℕ → List Directive → Directive → ℕ → Limit → Type 0
IsRefused design depth unit directive number limit =
    (number ≡ directive.number) × sized.IsRefused design depth (plain_owed unit directive) limit

-- so it is with one that is asked and before which each one is within the limits
pub record IsFirstRefused (design : Design) (depth : ℕ) (covers : Truth) (unit : List Directive) (number : ℕ) (limit : Limit) : Type 0 where
  pub place : ℕ
  pub directive : Directive
  pub here : slice_get unit place ≡ Some directive
  pub is : is_asked covers directive.kind ≡ true
  pub before : All (IsWithin design depth covers unit) (take place unit)
  pub refused : IsRefused design depth unit directive number limit

-- a fault that a text may be answered with: want of memory, or that of the first directive past a limit
abbrev pub IsSizeFault : Design → ℕ → Truth → List Directive → UnitFault → Type 0
IsSizeFault design depth covers unit (TooLarge number limit) = IsFirstRefused design depth covers unit number limit
IsSizeFault design depth covers unit NoMemory = Unit {0}

-- the same of one directive
abbrev pub MayRefuse : Design → ℕ → List Directive → Directive → UnitFault → Type 0
MayRefuse design depth unit directive (TooLarge number limit) = IsRefused design depth unit directive number limit
MayRefuse design depth unit directive NoMemory = Unit {0}
