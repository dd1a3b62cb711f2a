use Rattle.blif_hierarchy.specs.Recursion.{IsItself}
use Rattle.blif_hierarchy.proofs.recursion.each_itself.Given as goal

abbrev pub invariant-loop-number : goal.invariant-loop-number
invariant-loop-number l = IsItself l.number l.numbers.items
