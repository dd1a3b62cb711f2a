-- What the scan knows of the place of the next token, and what it finds of that token.
use Rattle.std.specs.Prelude.{◌≡◌, ◌≤◌, List, length, count_by, Result, MatchResult, Some}
use Rattle.psl_lexer.specs.declared.token.Token.{Token}
use Rattle.psl_parser.specs.declared.limit.Limit.{Limit}
use Rattle.psl_parser.specs.declared.limit.Limit.TheVariants as limits
use Rattle.psl_parser.specs.declared.state.Counts.{Counts}
use Rattle.psl_parser.specs.declared.state.State as code
use Rattle.psl_parser.specs.declared.state.State.TheVariants as states
use Rattle.psl_parser.specs.Statements as text
use Rattle.psl_parser.specs.Limits.{Passes, length_limit}

-- tokens of a statement, in numbers
abbrev pub counts_of : List Token → Counts
counts_of before = record {
  tokens = length before;
  opened = count_by text.opens before;
  closed = count_by text.closes before;
}

-- of a statement's tokens so far the numbers alone
abbrev pub counted : text.State → code.State
counted text.Outside = states.Outside
counted text.InHead = states.InHead
counted (text.Inside before) = states.Inside (counts_of before)

-- no more tokens than a statement may have, and no more of them open or close a bracket
pub record AreSmall (counts : Counts) : Type 0 where
  pub tokens : counts.tokens ≤ length_limit
  pub opened : counts.opened ≤ counts.tokens
  pub closed : counts.closed ≤ counts.tokens

abbrev pub IsSmall : code.State → Type 0
IsSmall states.Outside = Unit {0}
IsSmall states.InHead = Unit {0}
IsSmall (states.Inside counts) = AreSmall counts

-- behind these of its statement the token passes no limit
abbrev pub PassesNone : List Token → Token → Type 0
PassesNone before token = (limit : Limit) → Passes limit before token → ⊥

-- it passes this limit, and where it passes both, this is the level
pub record IsNamed (limit : Limit) (before : List Token) (token : Token) : Type 0 where
  pub passes : Passes limit before token
  pub level_first : limit ≡ limits.Length → Passes limits.Nesting before token → ⊥

-- no limit is passed by a token that is read in the state, which may belong to no statement
abbrev pub PassesNoneAt : text.State → Token → Type 0
PassesNoneAt state token = (before : List Token) → text.own state token ≡ Some before → PassesNone before token

-- the token that is read in the state belongs to a statement, and passes this limit there
abbrev pub IsNamedAt : Limit → text.State → Token → Type 0
IsNamedAt limit state token = (before : List Token) × (text.own state token ≡ Some before) × IsNamed limit before token

-- The step over a token of a statement behind these: the token passes no limit, and the state is the one behind it; or
-- it passes this limit.
abbrev pub StepsBehind : List Token → Token → Result code.State Limit → Type 0
StepsBehind before token result =
    MatchResult result (λ state. (state ≡ counted (text.behind_own before token)) × PassesNone before token)
    (λ limit. IsNamed limit before token)

-- the same of a token that is read in a state
abbrev pub StepsFrom : text.State → Token → Result code.State Limit → Type 0
StepsFrom from token result =
    MatchResult result (λ state. (state ≡ counted (text.behind from token)) × PassesNoneAt from token)
    (λ limit. IsNamedAt limit from token)
