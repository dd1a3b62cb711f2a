use Rattle.std.proofs.Common.{subst, arith}
use Rattle.reach.proofs.Holding.{have-held}
use Rattle.reach.proofs.stepping.step.Goals as goal
use Rattle.reach.specs.Systems.{system_of}
use Rattle.reach_frames.specs.Steps.{IsStep}
use Rattle.reach_frames.specs.declared.step.Step.{Step}

pub returns-in_ok-inductive-in-Invariant-clause-progress : goal.returns-in_ok-inductive-in-Invariant-clause-progress
returns-in_ok-inductive-in-Invariant-clause-progress c = c.in_ok-inductive-in-Invariant.ensures.reached c.args.pace.most

pub returns-then-len-pace-clause-held : goal.returns-then-len-pace-clause-held
returns-then-len-pace-clause-held c =
    have-held c.args.machine.now.joint.now c.cleared.new.sought.frames c.in-Cleared.stuck _
    (omega (arith, c.in_ok-stuck.ensures.many, c.requires.some))
    (subst (λ (s : Step). IsStep (system_of c.args.machine.now.joint.now) c.args.pace.most c.args.pace.budget c.cleared.new.sought.frames s)
    c.in-Cleared.is c.in_ok-stuck.ensures.step) c.len.ensures c.last_len.ensures

pub returns-in_ok-open-in-Cleared-clause-held : goal.returns-in_ok-open-in-Cleared-clause-held
returns-in_ok-open-in-Cleared-clause-held c =
    have-held c.args.machine.now.joint.now c.cleared.new.sought.frames c.in-Cleared.stuck _
    (omega (arith, c.in_ok-stuck.ensures.many, c.requires.some))
    (subst (λ (s : Step). IsStep (system_of c.args.machine.now.joint.now) c.args.pace.most c.args.pace.budget c.cleared.new.sought.frames s)
    c.in-Cleared.is c.in_ok-stuck.ensures.step) c.len.ensures c.last_len.ensures
