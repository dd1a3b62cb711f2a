use Rattle.std.proofs.Common.{◌≡◌, drop, map}
use Rattle.psl_lexer.specs.Reading.{mark_in}
use Rattle.psl_lexer.proofs.front.mark_in.Given as goal

abbrev pub invariant-loop-row : goal.invariant-loop-row
invariant-loop-row l = mark_in (map (λ row. (row.0.now, row.1)) (drop l.row-index l.rows)) l.rest ≡ mark_in (map (λ row. (row.0.now, row.1)) l.rows) l.rest
