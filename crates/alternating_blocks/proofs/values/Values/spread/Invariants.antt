use Rattle.std.proofs.Common.{◌≡◌, ◌<◌, ℕ, length}
use Rattle.alternating_blocks.proofs.values.Values.spread.Given as goal
use Rattle.alternating_blocks.specs.Values.{ShowAt}

abbrev pub invariant-loop-number : goal.invariant-loop-number
invariant-loop-number l = record { into_len : length l.into ≡ l.count; shown : (place : ℕ) → place < 64 → ShowAt place l.number l.into l.self }
