use Rattle.std.proofs.Common.{◌≤◌, ◌+◌, arith}
use Rattle.prover.proofs.Opened.{base-large, next-look}
use Rattle.prover.proofs.Reached.{joint-is, one-joint, within-searches}
use Rattle.prover.proofs.Seen.{stops}
use Rattle.prover.proofs.context.Prover.joints.Goals as goal
use Rattle.prover.specs.declared.finding.Query.TheVariants.{Base}

pub returns-in-Err-clause-stop : goal.returns-in-Err-clause-stop
returns-in-Err-clause-stop c =
    let few : c.loop-visits.visits ≤ c.args.self.task.options.visits =
    (within-searches c.args.self.task.options c.loop-visits.visits
    (omega (arith, c.loop-visits.auto.visits-end, c.searches-visits-end.ensures))).1 in
    stops c.args.self.task (Base c.loop-visits.visits 1) c.in-Err.fault c.without.result c.without.ensures
    (λ large. (
      next-look c.args.self.task.netlist.now c.args.self.task.unit.now c.args.self.task.directive.now c.args.self.task.options
          c.loop-visits.visits 1 c.requires.looked_at few (λ visits below. c.requires.open visits (omega (arith, below, few))),
      base-large c.args.self.task.netlist.now c.args.self.task.unit.now c.args.self.task.directive.now
          c.args.self.claim.now.violation c.loop-visits.visits 1 c.requires.ready.claim.violation (omega arith)
          (c.in-Err.ensures.large large),
    ))

pub loop-visits-preserved : goal.loop-visits-preserved
loop-visits-preserved c = one-joint c.args.self.task c.loop-visits.visits (c.loop-visits.visits + 1) c.loop-visits.joints c.push.new.self
    c.in-Ok.joint c.loop-visits.invariant
    (joint-is c.args.self.task c.loop-visits.visits c.args.self.claim.now.violation c.in-Ok.joint c.requires.ready.claim.violation c.in-Ok.ensures.is)
    c.in_ok-push-in-Ok.ensures.ok (omega arith)
