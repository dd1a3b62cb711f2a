use Rattle.std.proofs.Common.{◌≡◌, ◌*◌, ◌≤◌, ℤ, true, false, length, get_or, vec_len}
use Rattle.std.specs.Bool.{IsTrue}
use Rattle.std.specs.List.{Contains}
use Rattle.clauses.specs.Literals.{is_within, clause_within}
use Rattle.clauses.specs.declared.flat.TheConstants.{MOST_VARIABLES}
use Rattle.clause_log.specs.Codes.{code_of}
use Rattle.clause_log.proofs.literal_set.LiteralSet.clear.Given as goal

-- what is marked is a member that is left
abbrev pub invariant-loop-literal : goal.invariant-loop-literal
invariant-loop-literal l = record {
  same : l.self-inside.variables ≡ l.fn.self.variables;
  few : l.self-inside.variables ≤ MOST_VARIABLES;
  size : length l.self-inside.marks.items ≡ 2 * l.self-inside.variables;
  within : IsTrue (clause_within l.self-inside.variables l.self-inside.members.items);
  marked : (literal : ℤ) → is_within l.self-inside.variables literal ≡ true → get_or l.self-inside.marks.items (code_of literal) false ≡ true → Contains l.self-inside.members.items literal;
}

abbrev pub decreases-loop-literal : goal.decreases-loop-literal
decreases-loop-literal l = vec_len l.self-inside.members
