use Rattle.alternating_blocks.proofs.values.Values.read_first.Given as goal
use Rattle.alternating_blocks.specs.Values.{HasCounts, ShowAt}

abbrev pub invariant-loop-number : goal.invariant-loop-number
invariant-loop-number l = record { counts : HasCounts l.count l.self; shown : ShowAt 0 l.number l.words l.self }
