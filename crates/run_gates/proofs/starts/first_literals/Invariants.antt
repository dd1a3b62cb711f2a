use Rattle.std.proofs.Common.{◌≡◌, ◌++◌, drop}
use Rattle.std.specs.List.{flat_map}
use Rattle.netlist.specs.declared.latch.Latch.{Latch}
use Rattle.run_terms.specs.Moves.{first_literals, init_literals}
use Rattle.run_terms.specs.Positions.{current}
use Rattle.run_gates.proofs.starts.first_literals.Given as goal

abbrev pub invariant-loop-i : goal.invariant-loop-i
invariant-loop-i l =
    l.literals ++ flat_map (λ (latch : Latch). init_literals latch.init (current l.fn.position.signals l.fn.position.base latch.output)) (drop l.i l.latches)
    ≡ first_literals l.fn.position.signals l.fn.position.base l.latches
