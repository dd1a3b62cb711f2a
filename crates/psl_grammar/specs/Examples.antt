-- Worked examples of the grammar: token lists with their trees, and one with its syntax fault.
use Rattle.std.specs.Prelude.{ℕ, [], ◌∷◌}
use Rattle.psl_lexer.specs.declared.kind.TokenKind.{TokenKind}
use Rattle.psl_lexer.specs.declared.kind.TokenKind.TheVariants as kinds
use Rattle.psl_grammar.specs.Derivation.{IsSyntaxFault, IsTree}
use Rattle.psl_grammar.specs.Parts.{Prop, Alt, Statement}
use Rattle.psl_grammar.specs.Trees.{Token, Node, Absent, Directed, Infix, NextForm, Named, Posted, Prefix, Repeat, Times}

-- the token of a kind before which so many bytes stand; its text and its place say nothing
abbrev pub token : TokenKind → ℕ → Token
token k start = record { kind = k; text = []; start = start; end = start; place = record { line = 1; column = start } }

-- the name before which so many bytes stand
abbrev pub named : ℕ → Node
named i = Named (token kinds.Name i ∷ [])

-- a -> b -> c: the right arrow binds first
abbrev pub ArrowsGoRight : Type 0
ArrowsGoRight =
    IsTree Prop
    (token kinds.Name 0 ∷ token kinds.Arrow 1 ∷ token kinds.Name 2 ∷ token kinds.Arrow 3 ∷ token kinds.Name 4 ∷ [])
    (Infix (named 0) (token kinds.Arrow 1) (Infix (named 2) (token kinds.Arrow 3) (named 4)))

-- next a -> b: next binds first
abbrev pub NextBindsFirst : Type 0
NextBindsFirst =
    IsTree Prop
    (token kinds.Next 0 ∷ token kinds.Name 1 ∷ token kinds.Arrow 2 ∷ token kinds.Name 3 ∷ [])
    (Infix (Prefix (token kinds.Next 0) (named 1)) (token kinds.Arrow 2) (named 3))

-- next[2](a): with a bracket behind it, next is a counted form
abbrev pub NextCounts : Type 0
NextCounts =
    IsTree Prop
    (token kinds.Next 0 ∷ token kinds.BracketOpen 1 ∷ token kinds.Number 2 ∷ token kinds.BracketClose 3 ∷ token kinds.ParenOpen 4 ∷ token kinds.Name 5 ∷ token kinds.ParenClose 6 ∷ [])
    (NextForm (token kinds.Next 0) Absent (Times (token kinds.Number 2)) (named 5))

-- a[*] within b[+] & c[+], in braces: within binds first, and each repetition takes what stands before it
abbrev pub WithinBindsFirst : Type 0
WithinBindsFirst =
    IsTree Alt
    (token kinds.Name 0 ∷ token kinds.StarOpen 1 ∷ token kinds.BracketClose 2 ∷ token kinds.Within 3 ∷ token kinds.Name 4 ∷ token kinds.PlusRepeat 5 ∷ token kinds.Ampersand 6 ∷ token kinds.Name 7 ∷ token kinds.PlusRepeat 8 ∷ [])
    (Infix
    (Infix (Posted (named 0) (Repeat (token kinds.StarOpen 1) Absent)) (token kinds.Within 3) (Posted (named 4) (Repeat (token kinds.PlusRepeat 5) Absent)))
    (token kinds.Ampersand 6)
    (Posted (named 7) (Repeat (token kinds.PlusRepeat 8) Absent)))

-- assert always a;
abbrev pub AssertIsStatement : Type 0
AssertIsStatement =
    IsTree Statement
    (token kinds.Assert 0 ∷ token kinds.Always 1 ∷ token kinds.Name 2 ∷ token kinds.Semicolon 3 ∷ [])
    (Directed (token kinds.Assert 0) (Prefix (token kinds.Always 1) (named 2)) Absent)

-- a b -> c: the fault is at b, the first token that cannot go on, and not at the end
abbrev pub FaultIsEarly : Type 0
FaultIsEarly =
    IsSyntaxFault Prop
    (token kinds.Name 0 ∷ token kinds.Name 1 ∷ token kinds.Arrow 2 ∷ token kinds.Name 3 ∷ [])
    (token kinds.Name 1 ∷ token kinds.Arrow 2 ∷ token kinds.Name 3 ∷ [])
