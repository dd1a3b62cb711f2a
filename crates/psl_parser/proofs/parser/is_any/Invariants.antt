use Rattle.std.proofs.Common.{◌≡◌, drop}
use Rattle.psl_grammar.specs.Firsts.{has}
use Rattle.psl_parser.proofs.parser.is_any.Given as goal

abbrev pub invariant-loop-other : goal.invariant-loop-other
invariant-loop-other l = has l.kind (drop l.other-index l.kinds) ≡ has l.kind l.kinds
