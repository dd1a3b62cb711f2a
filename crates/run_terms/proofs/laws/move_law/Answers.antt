use Rattle.run_terms.proofs.MoveSizes.{moves-size}
use Rattle.run_terms.proofs.Netlists.{moves-say, first-says, move-terms_within, first-literals_within}
use Rattle.run_terms.proofs.laws.move_law.Goals as goal

pub returns : goal.returns
returns c = record {
  moves = moves-say;
  first = first-says;
  within = λ design base next variables sound fits also.
      (move-terms_within design base next variables sound fits also, first-literals_within design base variables sound fits);
  size = λ design base next. moves-size design.signals base next design.latches;
}
