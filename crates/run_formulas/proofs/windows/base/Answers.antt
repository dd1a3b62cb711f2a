use Rattle.std.proofs.Common.{◌≡◌, suc, arith}
use Rattle.run_formulas.proofs.windows.base.Goals as goal

pub returns-in-Some-clause-clauses : goal.returns-in-Some-clause-clauses
returns-in-Some-clause-clauses c =
    let window : c.args.window ≡ suc c.in-Some.last = omega (arith, c.in-Some.ensures) in
    rw window c.base_to.ensures.clauses
