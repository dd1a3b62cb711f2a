use Rattle.std.specs.Prelude.{◌+◌, if◌then◌else◌}
use Rattle.prover_held.specs.Judged.{count_kept, Narrows}
use Rattle.prover_held.proofs.lasting.lasting.Given as goal

abbrev pub invariant-loop-more : goal.invariant-loop-more
invariant-loop-more l = Narrows l.netlist l.automaton l.path l.kept l.more

abbrev pub decreases-loop-more : goal.decreases-loop-more
decreases-loop-more l = count_kept l.kept + (if l.more then 1 else 0)
