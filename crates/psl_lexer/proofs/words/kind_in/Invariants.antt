use Rattle.std.proofs.Common.{◌≡◌, drop, map}
use Rattle.psl_lexer.specs.Spellings.{kind_in}
use Rattle.psl_lexer.proofs.words.kind_in.Given as goal

abbrev pub invariant-loop-row : goal.invariant-loop-row
invariant-loop-row l = kind_in (map (λ row. (row.0.now, row.1)) (drop l.row-index l.rows)) l.bytes ≡ kind_in (map (λ row. (row.0.now, row.1)) l.rows) l.bytes
