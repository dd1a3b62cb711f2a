-- Where the statements of a text stand. It is told from the tokens alone, for each list of them, also for one that is
-- no sentence: a statement begins at the first token of the text, behind the `;` of another statement, behind the
-- `{` of a verification unit's head, or behind the `}` that closes a unit. There a `vunit` opens a head instead, and a
-- `}` closes a unit. The tokens of a head, from `vunit` to its first `{`, and the `}` that closes a unit belong to no
-- statement.
use Rattle.std.specs.Prelude.{ℕ, ◌-◌, ◌==◌, Bool, ◌&&◌, ◌||◌, if◌then◌else◌, List, [], ◌∷◌, ◌++◌, count_by, Option, None, Some}
use denote.Enum.Bare.{sameb}
use Rattle.psl_lexer.specs.contracts.kind.TokenKind.{the_type}
use Rattle.psl_lexer.specs.declared.kind.TokenKind.{TokenKind}
use Rattle.psl_lexer.specs.declared.kind.TokenKind.TheVariants as kinds
use Rattle.psl_lexer.specs.declared.token.Token.{Token}

-- the token is of the kind; the test is the one of `==` on kinds
abbrev pub is : TokenKind → Token → Bool
is kind token = sameb the_type token.kind kind

-- the token opens a bracket
abbrev pub opens : Token → Bool
opens token = is kinds.ParenOpen token || is kinds.BraceOpen token

-- the token closes a bracket
abbrev pub closes : Token → Bool
closes token = is kinds.ParenClose token || is kinds.BraceClose token

-- the level behind some tokens of a statement: the brackets that they open less those that they close
abbrev pub level : List Token → ℕ
level tokens = count_by opens tokens - count_by closes tokens

-- Where the next token stands.
pub data State : Type 0 where
  -- outside of statements and heads: here a statement may begin, or a head, or a unit may end
  Outside : State
  -- in the head of a verification unit, behind `vunit`
  InHead : State
  -- in a statement, behind these of its tokens, of which there are some
  Inside : List Token → State

-- the tokens of its own statement that stand before a token; none where the token belongs to no statement
abbrev pub own : State → Token → Option (List Token)
own Outside token = if is kinds.Vunit token || is kinds.BraceClose token then None else Some []
own InHead token = None
own (Inside before) token = Some before

-- where the token stands that follows a token of a statement: a `;` at level 0 ends the statement
abbrev pub behind_own : List Token → Token → State
behind_own before token =
    if is kinds.Semicolon token && (level before == 0) then Outside else Inside (before ++ token ∷ [])

-- where the next token stands behind a token
abbrev pub behind : State → Token → State
behind Outside token =
    if is kinds.Vunit token then InHead else (if is kinds.BraceClose token then Outside else behind_own [] token)
behind InHead token = if is kinds.BraceOpen token then Outside else InHead
behind (Inside before) token = behind_own before token

-- the same behind some tokens
abbrev pub behind_all : State → List Token → State
behind_all state [] = state
behind_all state (token ∷ tokens) = behind_all (behind state token) tokens

-- where the token stands before which a text has these
abbrev pub state_of : List Token → State
state_of before = behind_all Outside before
