use Rattle.std.proofs.Common.{◌≡◌, ◌<◌, ◌≤◌, ◌-◌, length, drop}
use Rattle.std.specs.List.{slice_range}
use Rattle.psl_base.specs.Tokens.{tokens_from}
use Rattle.psl_base.proofs.Scanning.{grown}
use Rattle.psl_base.proofs.tokens.token_end.Given as goal

abbrev pub invariant-loop-at : goal.invariant-loop-at
invariant-loop-at l = record {
  within : l.at ≤ length l.text;
  after : l.start < l.at;
  first : tokens_from l.text l.start (drop l.start l.text) ≡ grown l.text l.start (slice_range l.text l.start l.at) l.at (drop l.at l.text);
}

abbrev pub decreases-loop-at : goal.decreases-loop-at
decreases-loop-at l = length l.text - l.at
