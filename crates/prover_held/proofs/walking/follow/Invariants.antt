use Rattle.std.proofs.Common.{◌≡◌, ◌<◌, ℕ, [], false, length, get_or}
use Rattle.netlist.specs.Valuations.{values}
use Rattle.gates_frames.specs.Paths.{valuation_of, IsPath}
use Rattle.prover_held.proofs.walking.follow.Given as goal

abbrev pub invariant-loop-place : goal.invariant-loop-place
invariant-loop-place l = record {
  path : IsPath l.netlist false l.path;
  size : length l.path ≡ l.place;
  inputs : (place : ℕ) → place < l.place → values (valuation_of l.path place) l.netlist.inputs ≡ get_or l.inputs place [];
  first : valuation_of l.path 0 ≡ l.fn.first;
}
