use Rattle.netlist.proofs.Driving.{inputs-within, latches-within, outputs-within}
use Rattle.netlist.proofs.netlist.Netlist.facts.Goals as goal

pub returns-clause-inputs : goal.returns-clause-inputs
returns-clause-inputs c = rw (← c.self.view_is) (inputs-within _ c.self.invariant.0)

pub returns-clause-latches : goal.returns-clause-latches
returns-clause-latches c = rw (← c.self.view_is) (latches-within _ c.self.invariant.0)

pub returns-clause-tables : goal.returns-clause-tables
returns-clause-tables c = rw (← c.self.view_is) (outputs-within _ c.self.invariant.0)

pub returns-clause-ordered : goal.returns-clause-ordered
returns-clause-ordered c = (c.self.inside.order, rw (← c.self.view_is) c.self.invariant.1)
