use Rattle.std.proofs.Common.{arith, ap}
use Rattle.clauses.specs.Literals.{clause_words}
use Rattle.clauses.proofs.Flats.{words_of_lists}
use Rattle.clauses.proofs.flat.Clauses.words.Goals as goal

pub returns-clause-is : goal.returns-clause-is
returns-clause-is c =
    let inside = c.self.inside in
    omega (
      arith,
      words_of_lists inside.literals.items 0 inside.ends.items c.self.invariant.cut,
      ap clause_words c.self.view_is,
      inside.literals.ok.0,
      inside.ends.ok.0,
    )
