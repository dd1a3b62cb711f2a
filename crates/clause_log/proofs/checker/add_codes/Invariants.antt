use Rattle.std.proofs.Common.{◌≡◌, map, take}
use Rattle.clause_log.specs.Codes.{code_of}
use Rattle.clause_log.proofs.checker.add_codes.Given as goal

abbrev pub invariant-loop-literal : goal.invariant-loop-literal
invariant-loop-literal l = l.codes.items ≡ map code_of (take l.literal-index l.literals)
