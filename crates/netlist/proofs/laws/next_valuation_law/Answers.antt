use Rattle.netlist.proofs.Following.{some-first, some-next}
use Rattle.netlist.proofs.laws.next_valuation_law.Goals as goal

pub returns-clause-first : goal.returns-clause-first
returns-clause-first c = some-first c.args.netlist.now c.facts.ensures.ordered.0 c.facts.ensures.sound c.facts.ensures.ordered.1

pub returns-clause-next : goal.returns-clause-next
returns-clause-next c = some-next c.args.netlist.now c.facts.ensures.ordered.0 c.facts.ensures.sound c.facts.ensures.ordered.1
