use Rattle.std.proofs.Common.{◌≡◌, ◌≤◌, ◌-◌, length, drop}
use Rattle.psl_base.specs.Tokens.{tokens_from}
use Rattle.psl_base.proofs.tokens.token_start.Given as goal

abbrev pub invariant-loop-at : goal.invariant-loop-at
invariant-loop-at l = record {
  within : l.at ≤ length l.text;
  same : tokens_from l.text l.from (drop l.from l.text) ≡ tokens_from l.text l.at (drop l.at l.text);
}

abbrev pub decreases-loop-at : goal.decreases-loop-at
decreases-loop-at l = length l.text - l.at
