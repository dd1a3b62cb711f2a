-- What a set of literals keeps of its fields.
use Rattle.std.specs.Prelude.{◌≡◌, ◌*◌, ◌≤◌, ℤ, true, false, length, slice_index_or, ◌↔◌, IsTrue}
use Rattle.std.specs.List.{Contains}
use Rattle.clauses.specs.Literals.{is_within, clause_within}
use Rattle.clauses.specs.declared.flat.TheConstants.{MOST_VARIABLES}
use Rattle.clause_log.specs.declared.literal_set.LiteralSet.TheInside.{Inside}
use Rattle.clause_log.specs.Codes.{code_of}
use Rattle.clause_log.specs.Marks.{LiteralList}

abbrev pub literals_of : Inside → LiteralList
literals_of set = record { variables = set.variables; members = set.members.items }

-- there is a mark for each literal, and the literals that have one are the members
pub record IsMarked (set : Inside) : Type 0 where
  pub few : set.variables ≤ MOST_VARIABLES
  pub size : length set.marks.items ≡ 2 * set.variables
  pub within : IsTrue (clause_within set.variables set.members.items)
  pub marked : (literal : ℤ) → is_within set.variables literal ≡ true → (slice_index_or set.marks.items (code_of literal) false ≡ true) ↔ Contains set.members.items literal
