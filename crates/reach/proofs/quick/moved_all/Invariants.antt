use Rattle.std.proofs.Common.{◌≡◌, map, take}
use Rattle.gates_theory.specs.Unrolled.{moved}
use Rattle.reach.proofs.quick.moved_all.Given as goal

abbrev pub invariant-loop-literal : goal.invariant-loop-literal
invariant-loop-literal l = l.all ≡ map (moved l.width) (take l.literal-index l.literals)
