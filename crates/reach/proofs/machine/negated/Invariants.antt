use Rattle.std.proofs.Common.{◌≡◌, take}
use Rattle.reach_frames.specs.Cubes.{negated}
use Rattle.reach.proofs.machine.negated.Given as goal

abbrev pub invariant-loop-literal : goal.invariant-loop-literal
invariant-loop-literal l = l.negations ≡ negated (take l.literal-index l.literals)
