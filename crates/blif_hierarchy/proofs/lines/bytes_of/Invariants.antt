use Rattle.blif_hierarchy.specs.Sums.{HasBytes}
use Rattle.blif_hierarchy.proofs.lines.bytes_of.Given as goal

abbrev pub invariant-loop-round : goal.invariant-loop-round
invariant-loop-round g l = HasBytes l.models l.scale l.round l.below.items
