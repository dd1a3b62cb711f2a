-- Which tokens of a text pass a limit of their statement, and which of them is the first.
use Rattle.std.specs.Prelude.{◌≡◌, ℕ, ◌<◌, List, [], ◌∷◌, ◌++◌, length, take, IsTrue, Some, slice_get}
use Rattle.psl_lexer.specs.declared.token.Token.{Token}
use Rattle.psl_parser.specs.declared.limit.Limit.{Limit}
use Rattle.psl_parser.specs.declared.limit.Limit.TheVariants as limits
use Rattle.psl_parser.specs.declared.limit.Passed.{Passed}
use Rattle.psl_parser.specs.Statements.{opens, level, own, state_of}

-- how many brackets may be open at once in a statement
abbrev pub level_limit : ℕ
level_limit = 64

-- how many tokens a statement may have
abbrev pub length_limit : ℕ
length_limit = 2048

-- A token behind these of its statement passes the limit: it opens a bracket too many, or it is a token too many.
abbrev pub Passes : Limit → List Token → Token → Type 0
Passes limits.Nesting before token = IsTrue (opens token) × (level_limit < level (before ++ token ∷ []))
Passes limits.Length before token = length_limit < length (before ++ token ∷ [])

-- the token at an index of a text, counted from 0, belongs to a statement and passes the limit there
pub record PassesAt (tokens : List Token) (index : ℕ) (limit : Limit) : Type 0 where
  pub token : Token
  pub before : List Token
  pub stands : slice_get tokens index ≡ Some token
  pub statement : own (state_of (take index tokens)) token ≡ Some before
  pub passes : Passes limit before token

-- no token before an index passes a limit
abbrev pub NonePasses : List Token → ℕ → Type 0
NonePasses tokens index = (other : ℕ) (limit : Limit) → other < index → PassesAt tokens other limit → ⊥

-- The first token that passes a limit, and which. Where it passes both, the level goes before the length.
pub record IsFirstPassed (tokens : List Token) (passed : Passed) : Type 0 where
  pub within : passed.token < length tokens
  pub passes : PassesAt tokens passed.token passed.limit
  pub first : NonePasses tokens passed.token
  pub level_first : passed.limit ≡ limits.Length → PassesAt tokens passed.token limits.Nesting → ⊥
