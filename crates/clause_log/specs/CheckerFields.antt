-- What a checker of logs keeps of its fields.
use Rattle.std.specs.Prelude.{◌≡◌, ◌≤◌, []}
use Rattle.clause_store.specs.Stored.{live_clauses}
use Rattle.clause_log.specs.declared.checker.LogChecker.TheInside.{Inside}
use Rattle.clause_log.specs.Codes.{lemmas_of}
use Rattle.clause_log.specs.LiveClauses.{LemmasWithin}
use Rattle.clause_log.specs.Checking.{Checking}

abbrev pub state_of : Inside → Checking
state_of checker = record {
  variables = checker.formula.now.variables;
  formula = checker.formula.now.clauses;
  limit = checker.limit;
  lemmas = lemmas_of checker.lemmas;
}

-- between two calls no literal counts as false; the lemmas are within the formula's variables, and no more than may be
pub record IsChecker (checker : Inside) : Type 0 where
  pub variables : checker.falsified.variables ≡ checker.formula.now.variables
  pub empty : checker.falsified.members ≡ []
  pub within : LemmasWithin checker.formula.now.variables (lemmas_of checker.lemmas)
  pub few : live_clauses checker.lemmas ≤ checker.limit
