use Rattle.std.proofs.Common.{◌≡◌, ◌+◌, take}
use Rattle.netlist.specs.Design.{marks_of}
use Rattle.netlist.proofs.netlist.Netlist.bulk.Given as goal

abbrev pub invariant-loop-table : goal.invariant-loop-table
invariant-loop-table l = l.bulk ≡ l.self.signals + marks_of (take l.table-index l.self.tables)
