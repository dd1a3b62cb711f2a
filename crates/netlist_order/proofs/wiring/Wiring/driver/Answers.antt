use Rattle.std.proofs.Common.{◌<◌, length, slice_get, ap, ◌∙◌, arith}
use Rattle.netlist_order.proofs.Wires.{length-graph_of, inputs-graph_of}
use Rattle.netlist_order.proofs.wiring.Wiring.driver.Goals as goal

pub returns-clause-driver : goal.returns-clause-driver
returns-clause-driver c =
    let lists = c.self.inside.lists.now in
    let drivers = c.self.inside.drivers.now in
    let within : c.args.table < length lists = omega (arith, length-graph_of lists drivers, ap length c.self.view_is, c.requires.table) in
    rw (← c.self.view_is)
    (c.driver_at.ensures.driver ∙ ap (λ inputs. slice_get inputs c.args.input) (inputs-graph_of lists drivers c.args.table _ within))
