use Rattle.cert_check.proofs.Proving.{each_satisfies}
use Rattle.cert_check.proofs.soundness.claim_holds.Goals as goal

pub returns : goal.returns
returns c =
    each_satisfies c.args.claim.netlist.now c.args.claim.unit.now c.args.claim.directive.now c.soundness_law.ensures.sound c.requires.sound c.requires.tests c.violating_runs.ensures
    c.query_law.ensures.refuted c.size_law.ensures.within c.inductive_law.ensures c.reach_law.ensures.initial c.reach_law.ensures.step c.reach_law.ensures.bad
    c.reach_law.ensures.inductive
