use Rattle.word_pool.proofs.Sliding.{slid_none, slid_past_gap, slid_past_moved_run, slid_total}
use Rattle.word_pool.proofs.runs.slide_runs.Goals as goal

pub loop-from-init : goal.loop-from-init
loop-from-init c = slid_none c.requires.marked

pub loop-from-preserved-in-Some : goal.loop-from-preserved-in-Some
loop-from-preserved-in-Some c =
    let run = c.in-Some.ensures.run in
    slid_past_moved_run c.loop-from.invariant _ c.in-Some.run' run.0 run.1 run.2 c.move_run.ensures.moved

pub loop-from-preserved : goal.loop-from-preserved
loop-from-preserved c = slid_past_gap c.loop-from.invariant c.loop-from-test.true c.in-None.ensures.none

pub returns-clause-end : goal.returns-clause-end
returns-clause-end c = slid_total c.loop-from.invariant c.loop-from-test.false
