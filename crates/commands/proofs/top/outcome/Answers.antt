use Rattle.std.proofs.Common.{refl, ◌≤◌}
use Rattle.command_line.specs.Ranges.{AreInRange}
use Rattle.commands.proofs.Answering.{gen-answers}
use Rattle.commands.proofs.top.outcome.Goals as goal
use Rattle.commands.specs.Progress.{quiet}

pub prove_outcome-requires-clause-range : goal.prove_outcome-requires-clause-range
prove_outcome-requires-clause-range g c =
    let ranges : AreInRange c.in-Prove.limits × (1 ≤ c.in-Prove.evidence.loops) × (c.in-Prove.evidence.loops ≤ 16) = rw c.in-Prove.is at c.requires in ranges.0

pub prove_outcome-requires-clause-loops : goal.prove_outcome-requires-clause-loops
prove_outcome-requires-clause-loops g c =
    let ranges : AreInRange c.in-Prove.limits × (1 ≤ c.in-Prove.evidence.loops) × (c.in-Prove.evidence.loops ≤ 16) = rw c.in-Prove.is at c.requires in ranges.2

pub returns-in-Wave-clause-answer : goal.returns-in-Wave-clause-answer
returns-in-Wave-clause-answer g c words is = c.wave_outcome.ensures.answer words (rw c.in-Wave.is at is)

pub returns-in-Show-clause-answer : goal.returns-in-Show-clause-answer
returns-in-Show-clause-answer g c words is = c.show_outcome.ensures.answer words (rw c.in-Show.is at is)

pub returns-in-ShowNetlist-clause-answer : goal.returns-in-ShowNetlist-clause-answer
returns-in-ShowNetlist-clause-answer g c words is = c.netlist_outcome.ensures.answer words (rw c.in-ShowNetlist.is at is)

pub returns-in-Check-clause-answer : goal.returns-in-Check-clause-answer
returns-in-Check-clause-answer g c words is = c.check_outcome.ensures.answer words (rw c.in-Check.is at is)

pub returns-in-Replay-clause-answer : goal.returns-in-Replay-clause-answer
returns-in-Replay-clause-answer g c words is = c.replay_outcome.ensures.answer words (rw c.in-Replay.is at is)

pub returns-in-Gen-clause-answer : goal.returns-in-Gen-clause-answer
returns-in-Gen-clause-answer g c words is =
    gen-answers words c.in-Gen.seed c.in-Gen.samples (g.F.Shelf.state c.args.files.now) c.generate.result (rw c.in-Gen.is at is)
    c.generate.ensures.made c.generate.ensures.memory

pub returns-in-Prove-clause-answer : goal.returns-in-Prove-clause-answer
returns-in-Prove-clause-answer g c words is = c.prove_outcome.ensures.answer words (rw c.in-Prove.is at is)

pub returns-in-Prove-clause-told : goal.returns-in-Prove-clause-told
returns-in-Prove-clause-told g c words is = c.prove_outcome.ensures.told words (rw c.in-Prove.is at is)

pub returns-in-Prove-clause-lost : goal.returns-in-Prove-clause-lost
returns-in-Prove-clause-lost g c words is = c.prove_outcome.ensures.lost words (rw c.in-Prove.is at is)

pub returns-in-Wave-clause-told : goal.returns-in-Wave-clause-told
returns-in-Wave-clause-told g c words is = quiet refl

pub returns-in-Show-clause-told : goal.returns-in-Show-clause-told
returns-in-Show-clause-told g c words is = quiet refl

pub returns-in-ShowNetlist-clause-told : goal.returns-in-ShowNetlist-clause-told
returns-in-ShowNetlist-clause-told g c words is = quiet refl

pub returns-in-Check-clause-told : goal.returns-in-Check-clause-told
returns-in-Check-clause-told g c words is = quiet refl

pub returns-in-Replay-clause-told : goal.returns-in-Replay-clause-told
returns-in-Replay-clause-told g c words is = quiet refl

pub returns-in-Gen-clause-told : goal.returns-in-Gen-clause-told
returns-in-Gen-clause-told g c words is = quiet refl
