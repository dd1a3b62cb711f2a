use Rattle.netlist_order.proofs.Wires.{IsGraph-graph_of}
use Rattle.netlist_order.proofs.wiring.Wiring.new.Goals as goal

pub returns-clause-tables : goal.returns-clause-tables
returns-clause-tables c = IsGraph-graph_of c.args.lists.now c.args.drivers.now c.requires.tables
