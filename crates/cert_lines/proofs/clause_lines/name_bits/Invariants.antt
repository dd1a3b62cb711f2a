use Rattle.std.proofs.Common.{◌≡◌, true, take}
use Rattle.clauses.specs.Literals.{clause_within}
use Rattle.cert_lines.proofs.clause_lines.name_bits.Given as goal

abbrev pub invariant-loop-literal : goal.invariant-loop-literal
invariant-loop-literal l = clause_within l.width (take l.literal-index l.clause) ≡ true
