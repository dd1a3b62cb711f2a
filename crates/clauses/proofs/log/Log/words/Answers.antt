use Rattle.std.proofs.Common.{arith, ap}
use Rattle.clauses.specs.Logs.{log_words}
use Rattle.clauses.proofs.Packed.{words_of-entries}
use Rattle.clauses.proofs.log.Log.words.Goals as goal

pub returns-clause-is : goal.returns-clause-is
returns-clause-is c =
    let log = c.self.inside in
    let packed = c.self.invariant.packed in
    omega (
      arith,
      words_of-entries log.literals.items log.hints.items log.shapes.items packed.literals_covered packed.hints_covered,
      ap log_words c.self.view_is,
      c.self.invariant.lemmas,
      log.literals.ok.0,
      log.hints.ok.0,
    )
