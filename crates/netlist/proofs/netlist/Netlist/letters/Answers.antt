use Rattle.std.proofs.Common.{sym, ◌∙◌}
use Rattle.netlist.proofs.Held.{letters-more}
use Rattle.netlist.proofs.netlist.Netlist.letters.Goals as goal

pub loop-step-preserved : goal.loop-step-preserved
loop-step-preserved c =
    c.in_ok-push.ensures.ok
    ∙ rw (c.in_ok-atoms.ensures, c.as_slice-names.ensures, c.names.ensures.names, c.loop-step.invariant) (sym (letters-more c.args.self.now c.args.run.now c.args.first c.loop-step.step))
