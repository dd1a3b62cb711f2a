use Rattle.owed.proofs.Violating.{violating-runs}
use Rattle.owed.proofs.laws.violating_runs.Goals as goal

pub returns : goal.returns
returns c = violating-runs c.args.netlist.now c.args.unit.now c.args.directive.now
