-- What a netlist keeps.
use Rattle.netlist.specs.declared.netlist.Netlist.TheInside.{Inside}
use Rattle.netlist.specs.Design.{Design}
use Rattle.netlist.specs.Sound.{IsOrder, IsSound}

-- what contracts see of it
abbrev pub design_of : Inside → Design
design_of netlist = record {
  signals = netlist.signals;
  inputs = netlist.inputs;
  latches = netlist.latches;
  tables = netlist.tables;
  names = netlist.names;
}

-- what holds of each netlist, and the order in which its tables can be computed
abbrev pub IsKept : Inside → Type 0
IsKept netlist = IsSound (design_of netlist) × IsOrder netlist.tables netlist.order
