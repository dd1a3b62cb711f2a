use Rattle.std.proofs.Common.{◌≡◌, ◌-◌, ◌<◌, ℕ, Bool, List, length, None}
use Rattle.netlist.specs.Design.{free_of}
use Rattle.replay.proofs.leaving.leaves.Given as goal
use Rattle.replay.specs.Leaving.{first_from, leaving}
use Rattle.replay.specs.Recorded.{AreComputed}

abbrev pub invariant-loop-sample : goal.invariant-loop-sample
invariant-loop-sample l = record {
  hints : length l.hints.items ≡ l.netlist.signals;
  values : length l.values ≡ l.netlist.signals;
  free : length l.free ≡ length (free_of l.netlist);
  earlier : length l.earlier ≡ l.netlist.signals;
  valuation : length l.valuation ≡ l.netlist.signals;
  none : (valuations : ℕ → List Bool) → AreComputed l.netlist l.recording valuations → first_from (leaving l.netlist l.recording valuations) 0 l.sample ≡ None;
  before : (valuations : ℕ → List Bool) → AreComputed l.netlist l.recording valuations → 0 < l.sample → l.earlier ≡ valuations (l.sample - 1);
}
