-- What is kept of a netlist and an automaton, and of a path of valuations.
use Rattle.std.specs.Prelude.{◌≡◌, ℤ, ◌<◌, ◌≤◌, List, length, All, IfSome}
use Rattle.alternating_theory.specs.Obligations.{Automaton}
use Rattle.netlist.specs.Design.{Design}
use Rattle.gates_builder.specs.Adding.{AreOf, Making}
use Rattle.prover_bmc.specs.declared.dues.Place.{Place}
use Rattle.prover_bmc.specs.declared.plan.Plan.{Plan}
use Rattle.prover_bmc.specs.declared.path.Path.{Path}
use Rattle.prover_bmc.specs.declared.step.Step.{Step}

-- the order names tables, and there is a value for each signal and each obligation
pub record IsPlan (plan : Plan) : Type 0 where
  pub order : All (λ table. table < length plan.netlist.now.tables) plan.order
  pub cone : length plan.cone ≡ plan.netlist.now.signals
  pub lasting : length plan.lasting ≡ length plan.automaton.now.obligations

-- the literals of all signals in a frame
pub record IsFrame (making : Making) (design : Design) (literals : List ℤ) : Type 0 where
  pub size : length literals ≡ design.signals
  pub are : AreOf making literals

-- the literals of all obligations
pub record AreDebts (making : Making) (automaton : Automaton) (literals : List ℤ) : Type 0 where
  pub size : length literals ≡ length automaton.obligations
  pub are : AreOf making literals

-- the frames of a place, and what may be owed at the next one
pub record IsPlace (making : Making) (place : Place) : Type 0 where
  pub before : IfSome place.before (λ literals. AreOf making literals.now)
  pub now : AreOf making place.now.now
  pub later : AreOf making place.later.now

-- a frame, and what may be owed behind it
pub record IsStep (making : Making) (plan : Plan) (step : Step) : Type 0 where
  pub frame : IsFrame making plan.netlist.now step.frame
  pub debts : AreDebts making plan.automaton.now step.debts

-- a path of some valuations, or of none
pub record IsPathOf (plan : Plan) (path : Path) : Type 0 where
  pub covers : length plan.netlist.now.tables ≤ length path.builder.covers
  pub debts : AreDebts path.builder plan.automaton.now path.debts
  pub last : IfSome path.last (IsFrame path.builder plan.netlist.now)
  pub latches : length path.latches ≡ length plan.netlist.now.latches
  pub inputs : All (λ literals. length literals ≡ length plan.netlist.now.inputs) path.inputs
