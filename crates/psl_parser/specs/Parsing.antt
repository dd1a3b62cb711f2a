-- What a text is read as: its tree, or its first token with a fault. The tokens are counted from 0, and the end of the
-- text counts as a token behind the last one.
use Rattle.std.specs.Prelude.{ℕ, suc, ◌-◌, ◌≤◌, List, length, drop, Option, None, Some}
use Rattle.psl_grammar.specs.declared.tree.UnitTree.{UnitTree}
use Rattle.psl_grammar.specs.Derivation.{IsSyntaxFault, IsTree}
use Rattle.psl_grammar.specs.Parts.{Text}
use Rattle.psl_grammar.specs.Surface.{tree_node}
use Rattle.psl_lexer.specs.declared.token.Token.{Token}
use Rattle.psl_parser.specs.declared.limit.Limit.{Limit}
use Rattle.psl_parser.specs.declared.limit.Limit.TheVariants as limits
use Rattle.psl_parser.specs.declared.limit.Passed.{Passed}
use Rattle.psl_parser.specs.Limits.{IsFirstPassed, NonePasses}
use Rattle.psl_parser.specs.declared.fault.ParseFault.{ParseFault}
use Rattle.psl_parser.specs.declared.fault.ParseFault.TheVariants as faults

-- the grammar derives the tokens, with the tree, and none of them passes a limit of its statement
pub record IsParsed (tokens : List Token) (tree : UnitTree) : Type 0 where
  pub derived : IsTree Text tokens (tree_node tree)
  pub within : NonePasses tokens (length tokens)

-- the syntax fault of the text is at the token
pub record HasSyntaxFault (tokens : List Token) (token : ℕ) : Type 0 where
  pub within : token ≤ length tokens
  pub fault : IsSyntaxFault Text tokens (drop token tokens)

-- no syntax fault is at the token or before it
abbrev pub NoSyntaxFault : List Token → ℕ → Type 0
NoSyntaxFault tokens token = (other : ℕ) → other ≤ token → HasSyntaxFault tokens other → ⊥

-- the syntax fault is at the token, and no token before it passes a limit
pub record IsSyntaxFirst (tokens : List Token) (token : ℕ) : Type 0 where
  pub syntax_fault : HasSyntaxFault tokens token
  pub within : NonePasses tokens token

-- the token is the first that passes a limit, and it passes this one; no syntax fault is there or before
pub record IsLimitFirst (limit : Limit) (tokens : List Token) (token : ℕ) : Type 0 where
  pub passed : IsFirstPassed tokens (record { token = token; limit = limit })
  pub syntax_free : NoSyntaxFault tokens token

-- The first token with a fault. At one token a syntax fault goes before a limit, and the level before the length. Want
-- of memory is no fault of the text, and may come at any time.
abbrev pub IsParseFault : List Token → ParseFault → Type 0
IsParseFault tokens (faults.Syntax token) = IsSyntaxFirst tokens token
IsParseFault tokens (faults.NestedTooDeep token) = IsLimitFirst limits.Nesting tokens token
IsParseFault tokens (faults.StatementTooLong token) = IsLimitFirst limits.Length tokens token
IsParseFault tokens faults.NoMemory = Unit {0}

-- the fault of a token that passes a limit
abbrev pub limit_fault : Limit → ℕ → ParseFault
limit_fault limits.Nesting token = faults.NestedTooDeep token
limit_fault limits.Length token = faults.StatementTooLong token

-- how many of so many tokens are left behind the one that passes a limit; all, where none does
abbrev pub limit_of : ℕ → Option Passed → ℕ
limit_of count None = count
limit_of count (Some first) = count - suc first.token
