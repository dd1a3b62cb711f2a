use Rattle.std.proofs.Common.{◌<◌, length, Contains, Some, IsTrue, ◌↔◌, ap, subst, List, Option, ℕ, arith}
use Rattle.netlist_order.proofs.Wires.{length-graph_of, inputs-graph_of}
use Rattle.netlist_order.proofs.wiring.Wiring.reads_itself.Goals as goal

pub returns : goal.returns
returns c =
    let lists = c.self.inside.lists.now in
    let drivers = c.self.inside.drivers.now in
    let within : c.args.table < length lists = omega (arith, length-graph_of lists drivers, ap length c.self.view_is, c.requires.table) in
    rw (← c.self.view_is)
    (subst (λ (inputs : List (Option ℕ)). IsTrue c.reads.result ↔ Contains inputs (Some c.args.table))
    (inputs-graph_of lists drivers c.args.table _ within) c.reads.ensures)
