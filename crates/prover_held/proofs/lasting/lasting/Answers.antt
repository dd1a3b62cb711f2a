use Rattle.prover_held.proofs.Narrowing.{narrows-more}
use Rattle.prover_held.proofs.lasting.lasting.Goals as goal

pub loop-more-preserved : goal.loop-more-preserved
loop-more-preserved c =
    narrows-more c.args.netlist.now c.args.automaton.now c.args.path.now c.loop-more.kept c.sweep-more.new.kept c.loop-more.more c.sweep-more.result
    c.loop-more.invariant c.sweep-more.ensures
