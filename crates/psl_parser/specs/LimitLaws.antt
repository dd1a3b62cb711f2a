-- What holds of the statements of a text, and of the first token that passes a limit, as statements.
use Rattle.std.specs.Prelude.{◌≡◌, ◌≢◌, true, false, List, [], ◌∷◌, ◌++◌, length}
use Rattle.std.specs.List.{list_any}
use Rattle.psl_lexer.specs.declared.kind.TokenKind.TheVariants as kinds
use Rattle.psl_lexer.specs.declared.token.Token.{Token}
use Rattle.psl_parser.specs.declared.limit.Passed.{Passed}
use Rattle.psl_parser.specs.Statements.{is, level, Outside, InHead, Inside, state_of}
use Rattle.psl_parser.specs.Limits.{NonePasses, IsFirstPassed}

-- a statement may begin with the token
pub record MayBegin (first : Token) : Type 0 where
  pub no_head : is kinds.Vunit first ≡ false
  pub no_end : is kinds.BraceClose first ≡ false

-- none of the tokens of a statement is a `;` at level 0
abbrev pub NoneEnds : List Token → Type 0
NoneEnds statement =
    (before : List Token) (token : Token) (after : List Token) →
    statement ≡ before ++ token ∷ after → is kinds.Semicolon token ≡ true → level before ≢ 0

-- Where a statement begins, it goes on as long as none of its tokens is a `;` at level 0.
abbrev pub StatementsGoOn : Type 0
StatementsGoOn =
    (text : List Token) (first : Token) (more : List Token) → state_of text ≡ Outside → MayBegin first →
    NoneEnds (first ∷ more) → state_of (text ++ first ∷ more) ≡ Inside (first ∷ more)

-- Such a `;` ends it, and the next statement may begin behind it.
abbrev pub StatementsEnd : Type 0
StatementsEnd =
    (text statement : List Token) (last : Token) → state_of text ≡ Inside statement →
    is kinds.Semicolon last ≡ true → level statement ≡ 0 → state_of (text ++ last ∷ []) ≡ Outside

-- A `vunit` where a statement may begin opens a head, which goes on as long as no `{` comes.
abbrev pub HeadsGoOn : Type 0
HeadsGoOn =
    (text : List Token) (word : Token) (name : List Token) → state_of text ≡ Outside →
    is kinds.Vunit word ≡ true → list_any (is kinds.BraceOpen) name ≡ false → state_of (text ++ word ∷ name) ≡ InHead

-- That `{` ends it, and the unit's first statement may begin behind it.
abbrev pub HeadsEnd : Type 0
HeadsEnd =
    (text : List Token) (brace : Token) → state_of text ≡ InHead → is kinds.BraceOpen brace ≡ true → state_of (text ++ brace ∷ []) ≡ Outside

-- A `}` where a statement may begin closes a unit, and the next unit may begin behind it.
abbrev pub UnitsEnd : Type 0
UnitsEnd =
    (text : List Token) (brace : Token) → state_of text ≡ Outside →
    is kinds.Vunit brace ≡ false → is kinds.BraceClose brace ≡ true → state_of (text ++ brace ∷ []) ≡ Outside

-- a text has at most one first token that passes a limit
abbrev pub OneFirst : Type 0
OneFirst = (tokens : List Token) (first second : Passed) → IsFirstPassed tokens first → IsFirstPassed tokens second → first ≡ second

-- a text that has one is not one of which no token passes a limit
abbrev pub NoneOrFirst : Type 0
NoneOrFirst = (tokens : List Token) (first : Passed) → NonePasses tokens (length tokens) → IsFirstPassed tokens first → ⊥
