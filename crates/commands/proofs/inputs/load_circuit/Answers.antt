use Rattle.std.proofs.lemmas.Result.{err_from_is_err_and}
use Rattle.commands.proofs.Composing.{both-first, both-second, both-loaded}
use Rattle.commands.proofs.inputs.load_circuit.Goals as goal
use Rattle.commands.specs.Waves.{UnitStage, NetlistStage, with_netlist}

pub returns-in_err-tree-clause-stage : goal.returns-in_err-tree-clause-stage
returns-in_err-tree-clause-stage g c =
    let p = err_from_is_err_and c.from_residual.result c.from_residual.ensures.1 in
    rw (p.1, p.2) (both-first c.args.unit.now c.args.netlist.now (UnitStage c.args.unit.now) (NetlistStage c.args.netlist.now) with_netlist
    (g.F.Shelf.state c.args.files.now) (g.F.Shelf.state c.load_unit.new.files) _ c.in_err-tree.ensures)

pub returns-in_err-netlist-clause-stage : goal.returns-in_err-netlist-clause-stage
returns-in_err-netlist-clause-stage g c =
    let p = err_from_is_err_and c.from_residual-in_err-netlist.result c.from_residual-in_err-netlist.ensures.1 in
    rw (p.1, p.2) (both-second c.args.unit.now c.args.netlist.now (UnitStage c.args.unit.now) (NetlistStage c.args.netlist.now) with_netlist
    (g.F.Shelf.state c.args.files.now) (g.F.Shelf.state c.load_unit.new.files) (g.F.Shelf.state c.load_netlist.new.files) c.in_ok-tree.tree _
    c.in_ok-tree.ensures c.in_err-netlist.ensures.stage)

pub returns-clause-stage : goal.returns-clause-stage
returns-clause-stage g c =
    both-loaded c.args.unit.now c.args.netlist.now (UnitStage c.args.unit.now) (NetlistStage c.args.netlist.now) with_netlist
    (g.F.Shelf.state c.args.files.now) (g.F.Shelf.state c.load_unit.new.files) (g.F.Shelf.state c.load_netlist.new.files) c.in_ok-tree.tree c.in_ok-netlist.netlist
    c.in_ok-tree.ensures c.in_ok-netlist.ensures.stage
