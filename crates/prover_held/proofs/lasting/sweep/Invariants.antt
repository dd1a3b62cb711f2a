use Rattle.prover_held.specs.Judged.{Sweeps}
use Rattle.prover_held.proofs.lasting.sweep.Given as goal

abbrev pub invariant-loop-number : goal.invariant-loop-number
invariant-loop-number l = Sweeps l.netlist l.automaton l.path l.number l.initial.kept l.kept l.more
