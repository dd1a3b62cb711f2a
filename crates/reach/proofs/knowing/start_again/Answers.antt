use Rattle.std.proofs.Common.{sym, subst, ◌∙◌}
use Rattle.reach.specs.Knowing.{AreKnown}
use Rattle.reach.proofs.InitialLiterals.{start-known}
use Rattle.reach.proofs.knowing.start_again.Goals as goal

pub returns : goal.returns
returns c =
    let joined = c.args.joint.now in
    subst (AreKnown joined) (sym (c.in_ok-literals.ensures ∙ c.requires)) (start-known joined c.facts.ensures.netlist c.facts.ensures.automaton)
