use Rattle.std.proofs.Common.{refl}
use Rattle.reach.proofs.Slicing.{does-enter}
use Rattle.reach.proofs.quick.is_entry.Goals as goal

pub returns : goal.returns
returns c = λ yes.
    does-enter c.args.machine.now.joint.now c.facts.ensures.netlist c.facts.ensures.automaton c.facts.ensures.tests
    c.args.entering.frame.now c.args.entering.initial c.args.entering.cube.now c.args.entry.now
    (c.if-not-leads.ensures refl) (c.in_ok-are.ensures yes)
