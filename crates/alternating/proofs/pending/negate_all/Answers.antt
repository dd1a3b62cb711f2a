use Rattle.std.proofs.Common.{rules}
use Rattle.sere_nfa.proofs.InPlace.{changed-none, changed-more, changed-all}
use Rattle.alternating_theory.specs.Construction.{opposite_obligation}
use Rattle.alternating.specs.Pending.{pending_of}
use Rattle.alternating.proofs.pending.negate_all.Goals as goal

pub loop-pending-init : goal.loop-pending-init
loop-pending-init c = changed-none pending_of opposite_obligation c.args.pendings.now

pub loop-pending-preserved : goal.loop-pending-preserved
loop-pending-preserved c =
    changed-more pending_of opposite_obligation c.args.pendings.now c.loop-pending.pendings c.loop-pending.pending-index
    c.pending-item.result c.negate.new.self c.loop-pending.invariant (search rules) c.negate.ensures

pub returns : goal.returns
returns c = changed-all pending_of opposite_obligation c.args.pendings.now c.loop-pending.pendings c.loop-pending.pending-index
    c.loop-pending.invariant (search rules)
