use Rattle.std.proofs.Common.{ℕ, suc, ◌<◌}
use Rattle.netlist.specs.Runs.{valuation_at}
use Rattle.netlist.specs.Valuations.{Move}
use Rattle.netlist.proofs.netlist.Netlist.moves.Given as goal

abbrev pub invariant-loop-place : goal.invariant-loop-place
invariant-loop-place l = (place : ℕ) → place < l.place → Move l.self.latches (valuation_at l.run place) (valuation_at l.run (suc place))
