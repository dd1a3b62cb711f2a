use Rattle.std.proofs.Common.{◌∙◌}
use Rattle.sat_dimacs.proofs.Stopping.{no_count_word}
use Rattle.sat_dimacs.proofs.header.count.Goals as goal

pub returns-in-None-clause-err : goal.returns-in-None-clause-err
returns-in-None-clause-err c = rw c.place.ensures (no_count_word c.in-Some.word c.in-Some.ensures (λ count few same. c.in-None.ensures.none count few (c.text.ensures ∙ same)))
