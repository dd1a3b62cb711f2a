use Rattle.std.proofs.Common.{arith}
use Rattle.prover.proofs.HeldPaths.{held-path}
use Rattle.prover.proofs.context.Prover.held_path.Goals as goal

pub returns : goal.returns
returns c = held-path c.args.self.task.netlist.now c.args.self.task.unit.now c.args.self.task.directive.now c.args.self.task.options.depth
    c.args.self.claim.now.violation c.in_ok-path.path c.requires.ready.claim.violation c.in_ok-path.ensures.path
    (omega (arith, c.if-len-self.false, c.len.ensures))
    (c.held_law.ensures.some c.args.self.task.netlist.now c.soundness_law.ensures.ordered.0 c.in_ok-path.path c.soundness_law.ensures.sound
    c.soundness_law.ensures.ordered.1 c.in_ok-path.ensures.path)
    (λ run held. c.held_law.ensures.accepts c.args.self.task.netlist.now c.args.self.claim.now.violation c.in_ok-path.path run
    c.soundness_law.ensures.sound c.automaton_law.ensures c.requires.ready.claim.tests c.in_ok-path.ensures.path
    (c.in_ok-is_met.ensures.0 c.if-not-is_met.false) held)
