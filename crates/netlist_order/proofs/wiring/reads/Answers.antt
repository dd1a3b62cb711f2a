use Rattle.std.proofs.Common.{arith}
use Rattle.std.proofs.lemmas.Bool.{false≢true}
use Rattle.netlist_order.proofs.Wires.{drives_none}
use Rattle.netlist_order.proofs.wiring.reads.Goals as goal

pub returns : goal.returns
returns c =
    (λ no. absurd (false≢true no), λ there. absurd (drives_none c.args.drivers.now c.args.signals.now c.args.table (λ k lt. c.loop-signal.invariant k (omega arith)) there))
