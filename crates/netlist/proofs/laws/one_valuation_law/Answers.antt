use Rattle.netlist.proofs.Following.{some-valuation}
use Rattle.netlist.proofs.Uniqueness.{one-valuation}
use Rattle.netlist.proofs.laws.one_valuation_law.Goals as goal

pub returns-clause-some : goal.returns-clause-some
returns-clause-some c = some-valuation c.args.netlist.now c.facts.ensures.ordered.0 c.facts.ensures.sound c.facts.ensures.ordered.1

pub returns-clause-one : goal.returns-clause-one
returns-clause-one c = one-valuation c.args.netlist.now c.facts.ensures.ordered.0 c.facts.ensures.sound c.facts.ensures.ordered.1
