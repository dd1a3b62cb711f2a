use Rattle.reach.proofs.quick.quick.Goals as goal

pub solver_over-requires : goal.solver_over-requires
solver_over-requires c = c.args.machine.now.sliced_is c.in-Some.sliced c.in-Some.is

pub entered_over-requires-clause-sliced : goal.entered_over-requires-clause-sliced
entered_over-requires-clause-sliced c = c.args.machine.now.sliced_is c.in-Some.sliced c.in-Some.is
