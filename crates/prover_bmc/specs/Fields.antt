-- What is kept of prefixes and of chains, and what contracts see of them.
use Rattle.std.specs.Prelude.{IfSome}
use Rattle.netlist.specs.Design.{Design}
use Rattle.prover_bmc.specs.declared.opens.Opens.TheInside as opens
use Rattle.prover_bmc.specs.declared.prefixes.Prefixes.TheInside.{Inside}
use Rattle.prover_bmc.specs.Chains.{IsAsking}
use Rattle.prover_bmc.specs.Plans.{IsPathOf, IsPlan}

abbrev pub netlist_of : Inside → Design
netlist_of prefixes = prefixes.plan.netlist.now

abbrev pub IsKept : Inside → Type 0
IsKept prefixes = IsPlan prefixes.plan × IfSome prefixes.path (IsPathOf prefixes.plan)

abbrev pub design_of : opens.Inside → Design
design_of opens = opens.plan.netlist.now

abbrev pub IsHeld : opens.Inside → Type 0
IsHeld opens = IsPlan opens.plan × IsAsking opens.plan opens.asking
