use Rattle.reach.proofs.Asked.{entry-none, entry-some}
use Rattle.reach.proofs.machine.JointMachineMachine.entry.Goals as goal

pub returns-in_ok-after-in-Model-clause-answer : goal.returns-in_ok-after-in-Model-clause-answer
returns-in_ok-after-in-Model-clause-answer c =
    entry-some c.args.self.now.joint.now c.facts.ensures.netlist c.facts.ensures.automaton c.facts.ensures.tests c.args.self.now.steps
    c.in_ok-values.field-0 c.args.frame.now c.args.initial c.args.cube.now c.requires.frame c.requires.cube c.in_ok-values.ensures.told
    c.in-Model.values c.in-Model.is c.state_bits-width.result c.state_bits-width.ensures.is c.in_ok-before-in-Model.before c.in_ok-after-in-Model.after
    c.in_ok-before-in-Model.ensures c.in_ok-after-in-Model.ensures

pub returns-in_ok-mask-in-Refuted-clause-answer : goal.returns-in_ok-mask-in-Refuted-clause-answer
returns-in_ok-mask-in-Refuted-clause-answer c =
    entry-none c.args.self.now.joint.now c.facts.ensures.netlist c.facts.ensures.automaton c.facts.ensures.tests c.args.self.now.steps
    c.in_ok-values.field-0 c.args.frame.now c.args.initial c.args.cube.now c.requires.frame c.requires.cube c.in_ok-values.ensures.told
    c.in-Refuted.log c.in-Refuted.count c.in-Refuted.is
