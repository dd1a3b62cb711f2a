use Rattle.std.proofs.Common.{◌≡◌, ◌++◌, take}
use Rattle.reach_solver.proofs.text.append.Given as goal

abbrev pub invariant-loop-literal : goal.invariant-loop-literal
invariant-loop-literal l = l.all ≡ l.fn.all ++ take l.literal-index l.literals
