use Rattle.prover.proofs.Opened.{base-large}
use Rattle.prover.proofs.Seen.{stops}
use Rattle.prover.proofs.context.Prover.keep_at.Goals as goal
use Rattle.prover.specs.declared.finding.Query.TheVariants.{Base}

pub returns-in-Err-clause-stop : goal.returns-in-Err-clause-stop
returns-in-Err-clause-stop c = stops c.args.self.task (Base c.args.visits c.args.window) c.in-Err.fault c.without.result c.without.ensures
    (λ large. (
      c.requires.looked_at,
      base-large c.args.self.task.netlist.now c.args.self.task.unit.now c.args.self.task.directive.now
          c.args.self.claim.now.violation c.args.visits c.args.window c.requires.ready.claim.violation c.requires.looked_at.some
          (c.in-Err.ensures.large large),
    ))
