use Rattle.std.proofs.Common.{◌≡◌, ◌*◌, pos, map}
use Rattle.std.specs.List.{range_with_len}
use Rattle.gates_theory.specs.Unrolled.{moved}
use Rattle.run_formulas.proofs.adding.add_somewhere.Given as goal

abbrev pub invariant-loop-position : goal.invariant-loop-position
invariant-loop-position l = l.literals ≡ map (λ position. moved (position * l.size) (pos l.variable)) (range_with_len 0 l.position)
