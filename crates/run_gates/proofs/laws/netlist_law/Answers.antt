use Rattle.run_gates.proofs.Signals.{sound-tables, sound-latches}
use Rattle.run_gates.proofs.laws.netlist_law.Goals as goal

pub returns-clause-tables : goal.returns-clause-tables
returns-clause-tables c = sound-tables c.args.netlist.now c.soundness_law.ensures.sound

pub returns-clause-latches : goal.returns-clause-latches
returns-clause-latches c = sound-latches c.args.netlist.now c.soundness_law.ensures.sound
