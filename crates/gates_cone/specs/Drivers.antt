-- What drives each signal of a netlist.
use Rattle.std.specs.Prelude.{◌≡◌, ℕ, ◌<◌, List, [], ◌∷◌, length, slice_index_or}
use Rattle.netlist.specs.declared.latch.Init.TheVariants as inits
use Rattle.netlist.specs.declared.latch.Latch.{Latch}
use Rattle.netlist.specs.Design.{Design}
use Rattle.netlist.specs.Sound.{table_at}
use Rattle.gates_cone.specs.declared.drivers.Driver.{Driver}
use Rattle.gates_cone.specs.declared.drivers.Driver.TheVariants as kinds

abbrev pub no_latch : Latch
no_latch = record { input = 0; output = 0; init = inits.Zero }

abbrev pub latch_at : List Latch → ℕ → Latch
latch_at latches number = slice_index_or latches number no_latch

abbrev pub driver_at : List Driver → ℕ → Driver
driver_at drivers signal = slice_index_or drivers signal kinds.Input

-- what a driver reads
abbrev pub reads_of : Design → Driver → List ℕ
reads_of design kinds.Input = []
reads_of design (kinds.Latch number) = (latch_at design.latches number).input ∷ []
reads_of design (kinds.Table number) = (table_at design.tables number).inputs

-- the latch or the table of a driver drives a signal
abbrev pub Drives : Design → ℕ → Driver → Type 0
Drives design signal kinds.Input = Unit {0}
Drives design signal (kinds.Latch number) =
    (number < length design.latches) × ((latch_at design.latches number).output ≡ signal)
Drives design signal (kinds.Table number) =
    (number < length design.tables) × ((table_at design.tables number).output ≡ signal)

-- the drivers of all signals, as far as the first so many tables and latches go
pub record AreNoted (design : Design) (tables latches : ℕ) (drivers : List Driver) : Type 0 where
  pub size : length drivers ≡ design.signals
  pub drive : (signal : ℕ) → Drives design signal (driver_at drivers signal)
  pub of_tables : (number : ℕ) → number < tables
      → driver_at drivers (table_at design.tables number).output ≡ kinds.Table number
  pub of_latches : (number : ℕ) → number < latches
      → driver_at drivers (latch_at design.latches number).output ≡ kinds.Latch number

abbrev pub AreDrivers : Design → List Driver → Type 0
AreDrivers design drivers = AreNoted design (length design.tables) (length design.latches) drivers
