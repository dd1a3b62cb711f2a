use Rattle.psl_names.proofs.Counts.{CountsMore}
use Rattle.psl_names.proofs.sorting.alike_counts.Given as goal

abbrev pub invariant-loop-distance : goal.invariant-loop-distance
invariant-loop-distance l = CountsMore l.names l.counts.items l.count l.distance
