use Rattle.std.proofs.Common.{length}
use Rattle.cert_lines.proofs.Clausing.{ClausesAt}
use Rattle.cert_lines.proofs.clause_lines.read_clauses.Given as goal

abbrev pub invariant-loop-line : goal.invariant-loop-line
invariant-loop-line l = ClausesAt l.width l.fn.reading l.reading l.clauses

abbrev pub decreases-loop-line : goal.decreases-loop-line
decreases-loop-line l = length l.reading.rest.now
