-- The clauses that a lemma is checked against.
use Rattle.std.specs.Prelude.{◌≡◌, ℕ, ℤ, neg_ℤ, List, ◌++◌, Option, Some, None, IsTrue, slice_index_or}
use Rattle.clauses.specs.Literals.{clause_within}
use Rattle.clauses.specs.Passing.{Passes}
use Rattle.clauses.specs.Live.{Numbered, all_live, clause_of}
use Rattle.clause_log.specs.declared.live.Live.{Live}
use Rattle.clause_log.specs.declared.left.Left.{Left}
use Rattle.clause_log.specs.Lefts.{LeavesOf}
use Rattle.clause_log.specs.Codes.{lemmas_of}
use Rattle.clause_log.specs.Marks.{LiteralList}

-- the clauses by number: those of the formula, and the lemmas behind them
abbrev pub clauses_of : Live → Numbered ℤ
clauses_of live = all_live live.formula.now.clauses ++ lemmas_of live.lemmas.now

-- the live clause of a number
abbrev pub live_clause : Live → ℕ → Option (List ℤ)
live_clause live = clause_of (clauses_of live)

-- hints refute that the literals of a set are all false
abbrev pub HintsPass : Live → List ℤ → List ℕ → Type 0
HintsPass live set hints = Passes neg_ℤ (live_clause live) set hints

-- a lemma passes: its literals are of the formula's variables, and its hints refute their negations
abbrev pub Follows : Live → List ℤ → List ℕ → Type 0
Follows live literals hints = IsTrue (clause_within live.formula.now.variables literals) × HintsPass live literals hints

-- each lemma that is there is within the variables
abbrev pub LemmasWithin : ℕ → Numbered ℤ → Type 0
LemmasWithin variables lemmas = (place : ℕ) (lemma : List ℤ) → slice_index_or lemmas place None ≡ Some lemma → IsTrue (clause_within variables lemma)

-- a set of literals of the formula's variables, within which the lemmas are
pub record Fits (live : Live) (set : LiteralList) : Type 0 where
  pub variables : set.variables ≡ live.formula.now.variables
  pub lemmas : LemmasWithin live.formula.now.variables (lemmas_of live.lemmas.now)

-- what is left of the clause of a number, which is live
pub record Leaves (live : Live) (set : LiteralList) (number : ℕ) (left : Left) : Type 0 where
  pub clause : List ℤ
  pub is : live_clause live number ≡ Some clause
  pub within : IsTrue (clause_within live.formula.now.variables clause)
  pub leaves : LeavesOf set.members clause left
