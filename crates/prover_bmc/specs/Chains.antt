-- What is kept of joint states that follow one another, and what is told of them.
use Rattle.std.specs.Prelude.{◌≡◌, ◌<◌, ◌≤◌, length, All, IfSome}
use Rattle.netlist.specs.Design.{Design}
use Rattle.gates_builder.specs.Adding.{Making}
use Rattle.prover_bmc.specs.Hints.{AreChoices}
use Rattle.prover_bmc.specs.Plans.{AreDebts, IsFrame}
use Rattle.prover_bmc.specs.declared.chain.Chain.{Chain}
use Rattle.prover_bmc.specs.declared.link.Link.{Link}
use Rattle.prover_bmc.specs.declared.listed.Listed.{Listed}
use Rattle.prover_bmc.specs.declared.opens.Asking.{Asking}
use Rattle.prover_bmc.specs.declared.opens.Asking.TheVariants as askings
use Rattle.prover_bmc.specs.declared.opens.Likely.{Likely}
use Rattle.prover_bmc.specs.declared.opens.Opened.{Opened}
use Rattle.prover_bmc.specs.declared.opens.Opened.TheVariants as openeds
use Rattle.prover_bmc.specs.declared.plan.Plan.{Plan}

-- a literal for each signal of a place
abbrev pub HasFrame : Design → Link → Type 0
HasFrame design link = length link.frame ≡ design.signals

-- the literals of a place
pub record IsLink (making : Making) (plan : Plan) (link : Link) : Type 0 where
  pub frame : IsFrame making plan.netlist.now link.frame
  pub debts : AreDebts making plan.automaton.now link.debts
  pub pending : AreDebts making plan.automaton.now link.pending

-- for each place the literals of latches, one for each, and of inputs, one for each
pub record AreListed (design : Design) (listed : Listed) : Type 0 where
  pub as_many : length listed.latches ≡ length listed.inputs
  pub latches : All (λ literals. length literals ≡ length design.latches) listed.latches
  pub inputs : All (λ literals. length literals ≡ length design.inputs) listed.inputs

-- one place at least
pub record IsChain (plan : Plan) (chain : Chain) : Type 0 where
  pub covers : length plan.netlist.now.tables ≤ length chain.builder.covers
  pub before : IfSome chain.before (IsLink chain.builder plan)
  pub last : IsLink chain.builder plan chain.last
  pub some : 0 < length chain.listed.inputs
  pub listed : AreListed plan.netlist.now chain.listed

-- values of a netlist's latches and inputs
abbrev pub IsLikely : Design → Likely → Type 0
IsLikely design likely = AreChoices design likely.choices

-- joint states that are told have values of a netlist's latches and inputs
abbrev pub IsOpened : Design → Opened → Type 0
IsOpened design (openeds.Likely likely) = IsLikely design likely
IsOpened design openeds.Closer = Unit {0}
IsOpened design openeds.None = Unit {0}
IsOpened design openeds.Nothing = Unit {0}

-- the places that are asked for, if there are any
abbrev pub IsAsking : Plan → Asking → Type 0
IsAsking plan (askings.Far chain) = IsChain plan chain
IsAsking plan (askings.Near chain) = IsChain plan chain
IsAsking plan askings.Ended = Unit {0}
