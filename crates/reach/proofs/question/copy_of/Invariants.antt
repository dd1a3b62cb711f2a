use Rattle.std.proofs.Common.{◌≡◌, take}
use Rattle.reach.proofs.question.copy_of.Given as goal

abbrev pub invariant-loop-place : goal.invariant-loop-place
invariant-loop-place l = l.new ≡ take l.place l.clauses
