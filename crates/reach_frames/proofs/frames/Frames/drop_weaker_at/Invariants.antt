use Rattle.std.proofs.Common.{◌≡◌, ◌-◌, ◌<◌, not, [], length, get_or, set}
use Rattle.reach_frames.specs.Marks.{is_part}
use Rattle.reach_frames.specs.declared.level.KeptClause.{KeptClause}
use Rattle.reach_frames.proofs.Dropping.{IsGoneOver}
use Rattle.reach_frames.proofs.frames.Frames.drop_weaker_at.Given as goal

abbrev pub invariant-loop-index : goal.invariant-loop-index
invariant-loop-index l = record {
  within : l.place < length l.self;
  others : l.self ≡ set l.fn.self l.place (get_or l.self l.place []);
  gone : IsGoneOver (λ (kept : KeptClause). not (is_part l.clause kept.clause)) (get_or l.fn.self l.place []) (get_or l.self l.place []) l.index;
}

abbrev pub decreases-loop-index : goal.decreases-loop-index
decreases-loop-index l = length (get_or l.self l.place []) - l.index
