use Rattle.std.proofs.Common.{subst, ◌-◌, ◌<◌, Bor, Option}
use Rattle.std.specs.Option.{IfSome}
use Rattle.prover.proofs.Raised.{kept-by}
use Rattle.prover.proofs.context.Prover.next_path.Goals as goal
use Rattle.prover.specs.Kept.{IsKeptFor}
use Rattle.prover.specs.declared.finding.OpenPath.{OpenPath}

pub returns-then-not-path-clause-path : goal.returns-then-not-path-clause-path
returns-then-not-path-clause-path c =
    let fewer : (0 < c.args.visits) × IsKeptFor c.args.self.task (c.args.visits - 1) c.args.window c.in-Some.path.now =
    subst (λ (o : Option (Bor OpenPath)). IfSome o (λ path. (0 < c.args.visits) × IsKeptFor c.args.self.task (c.args.visits - 1) c.args.window path.now))
    c.in-Some.is c.requires.fewer in
    kept-by c.args.self.task c.args.visits c.args.window c.in-Some.path.now c.in_ok-raised.raised fewer.0 fewer.1 c.if-not-path.true
    c.in_ok-raised.ensures.visits c.in_ok-raised.ensures.other c.in_ok-raised.ensures.path
