use Rattle.prover.proofs.claim.claim_of.Goals as goal

pub returns : goal.returns
returns c = record {
  owed = c.in_ok-owed.ensures.formula;
  violation = c.in_ok-violation.ensures.automaton;
  tests = c.in_ok-violation.ensures.in_range c.args.task.netlist.now.names c.requires.unit c.requires.directive;
}
