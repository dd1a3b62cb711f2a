use Rattle.std.proofs.Common.{◌≡◌, ◌*◌, ◌<◌, map, take}
use Rattle.std.specs.List.{All}
use Rattle.cdcl_trail.specs.Literals.{signed}
use Rattle.cdcl.proofs.load.read_literals.Given as goal

abbrev pub invariant-loop-literal : goal.invariant-loop-literal
invariant-loop-literal l = record {
  is : map signed l.numbers.items ≡ take l.literal-index l.clause;
  below : All (λ literal. literal < 2 * l.variables) l.numbers.items;
}
