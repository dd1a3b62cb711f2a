use Rattle.std.proofs.Common.{◌≡◌}
use Rattle.netlist.specs.Runs.{letters_from}
use Rattle.netlist.proofs.netlist.Netlist.letters.Given as goal

abbrev pub invariant-loop-step : goal.invariant-loop-step
invariant-loop-step l = l.letters ≡ letters_from l.self l.run l.first l.step
