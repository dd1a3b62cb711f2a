use Rattle.std.proofs.Common.{◌≡◌, ◌++◌, map, take}
use Rattle.cdcl_trail.specs.Literals.{signed}
use Rattle.cdcl.proofs.learn.add_signed.Given as goal

abbrev pub invariant-loop-literal : goal.invariant-loop-literal
invariant-loop-literal l = l.all.items ≡ l.fn.all.items ++ map signed (take l.literal-index l.literals)
