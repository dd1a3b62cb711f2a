use Rattle.std.proofs.Common.{◌≡◌, length}
use Rattle.psl_names.specs.Ends.{compare_ends}
use Rattle.psl_names.proofs.ends.compare_ends.Given as goal

abbrev pub invariant-loop-first_rest : goal.invariant-loop-first_rest
invariant-loop-first_rest l = compare_ends l.first_rest l.second_rest ≡ compare_ends l.first l.second

abbrev pub decreases-loop-first_rest : goal.decreases-loop-first_rest
decreases-loop-first_rest l = length l.first_rest
