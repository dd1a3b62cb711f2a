use Rattle.std.proofs.Common.{◌≡◌, true, take}
use Rattle.clauses.specs.Literals.{clause_within}
use Rattle.clause_log.proofs.hints.mark_lemma.Given as goal

abbrev pub invariant-loop-literal : goal.invariant-loop-literal
invariant-loop-literal l = record {
  variables : l.set.variables ≡ l.fn.set.variables;
  within : clause_within l.variables (take l.literal-index l.literals) ≡ true;
  marked : l.set.members ≡ take l.literal-index l.literals;
}
