use Rattle.std.proofs.Common.{ap, length, arith}
use Rattle.clauses.proofs.Flats.{length_lists_from}
use Rattle.clauses.proofs.flat.Clauses.len.Goals as goal

pub returns : goal.returns
returns c =
    let inside = c.self.inside in
    omega (arith, ap length c.self.view_is, length_lists_from inside.literals.items 0 inside.ends.items, inside.ends.ok.0)
