use Rattle.std.proofs.Common.{◌≡◌, ◌-◌}
use Rattle.wave_judge.proofs.search.Search.point.Given as goal
use Rattle.wave_judge.specs.Sides.{IsSpan}

abbrev pub invariant-loop-span : goal.invariant-loop-span
invariant-loop-span l = record {
  span : IsSpan l.self.side l.self.pass.automaton.now l.self.pass.recording.now l.span;
  blocks_are : l.blocks ≡ l.self.pass.automaton.now;
}

abbrev pub decreases-loop-span : goal.decreases-loop-span
decreases-loop-span l = l.span.above.count - l.span.below.count
