use Rattle.netlist.proofs.Named.{all-alike}
use Rattle.netlist.proofs.netlist.Netlist.names.Goals as goal

pub returns-clause-alike : goal.returns-clause-alike
returns-clause-alike c = all-alike c.args.self.now.signals c.args.self.now.names c.facts.ensures.sound.names
