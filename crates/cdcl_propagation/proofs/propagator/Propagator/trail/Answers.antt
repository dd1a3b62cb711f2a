use Rattle.cdcl_propagation.specs.Fields.{state_of}
use Rattle.cdcl_propagation.proofs.Settling.{settled}
use Rattle.cdcl_propagation.proofs.propagator.Propagator.trail.Goals as goal

pub returns-clause-settled : goal.returns-clause-settled
returns-clause-settled c =
    let of = c.self.inside in
    rw (← c.self.view_is) (settled (state_of of) of.pairs.items of.lists.items c.literals-on_trail.ensures.path c.self.invariant.watched c.self.invariant.reasons)
