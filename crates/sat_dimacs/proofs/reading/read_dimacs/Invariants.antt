use Rattle.std.proofs.Common.{length}
use Rattle.sat_dimacs.specs.Words.{all_words}
use Rattle.sat_dimacs.proofs.Stopping.{ReadsTo}
use Rattle.sat_dimacs.proofs.reading.read_dimacs.Given as goal

abbrev pub invariant-loop-word : goal.invariant-loop-word
invariant-loop-word l = ReadsTo (all_words l.text) l.words l.cnf.variables l.wanted l.cnf.clauses l.clause.items

abbrev pub decreases-loop-word : goal.decreases-loop-word
decreases-loop-word l = length l.words.tokens
