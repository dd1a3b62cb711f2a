use Rattle.std.proofs.Common.{◌≡◌, take}
use Rattle.reach.specs.Knowing.{each_alone}
use Rattle.reach.proofs.knowing.each_of.Given as goal

abbrev pub invariant-loop-literal : goal.invariant-loop-literal
invariant-loop-literal l = l.clauses ≡ each_alone (take l.literal-index l.literals)
