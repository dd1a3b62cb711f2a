-- Each word and mark that the grammar has in the place of an operator, a directive or a declaration has a row of its own:
-- a token that is added to a production and forgotten in its table breaks one of these statements.
use Rattle.std.specs.Prelude.{◌≡◌, List, [], ◌∷◌, ◌++◌, Bool as Truth, true, false, ◌||◌, Option, is_some}
use Rattle.std.specs.List.{list_all, flat_map}
use Rattle.psl_lexer.specs.declared.kind.TokenKind.{TokenKind}
use Rattle.psl_lexer.specs.declared.kind.TokenKind.TheVariants as kinds
use Rattle.psl_grammar.specs.Parts.{Symbol, Directive, Declaration, Prop, Imp, ImpRight, Suf, Bnd, Occ, Trm, Or, And, Cmp, Una, Sere, Fus, Alt, Wtail, Ctail, Start, Bor, Band, Bcmp, Buna, Post, Part, Quoted, Sym, ◌~◌, ◌//◌, Many, Maybe}
use Rattle.psl_grammar.specs.Productions.{edge, event_range, next_range, production, until}
use Rattle.psl_layer_theory.specs.Operators.{prefix_row, infix_row, repetition_row, strength_row, quantifier_row, edge_row, directive_row, declaration_row}

-- the tokens that stand in a part
abbrev pub marks : Part → List TokenKind
marks (Quoted kind) = kind ∷ []
marks (Sym _) = []
marks (first ~ second) = marks first ++ marks second
marks (first // second) = marks first ++ marks second
marks (Many part) = marks part
marks (Maybe part) = marks part

-- the tokens with which a part begins by itself
abbrev pub openings : Part → List TokenKind
openings (Quoted kind) = kind ∷ []
openings (Sym _) = []
openings (first ~ second) = openings first
openings (first // second) = openings first ++ openings second
openings (Many part) = openings part
openings (Maybe part) = openings part

abbrev pub marks_of : List Symbol → List TokenKind
marks_of symbols = flat_map (λ symbol. marks (production symbol)) symbols

abbrev pub AllHaveRows : {A : Type 0} → (TokenKind → Option A) → List TokenKind → Type 0
AllHaveRows row tokens = list_all (λ kind. is_some (row kind)) tokens ≡ true

-- the symbols whose tokens stand before an operand, and those whose tokens stand between operands
abbrev pub prefix_symbols : List Symbol
prefix_symbols = Prop ∷ ImpRight ∷ Occ ∷ Una ∷ Buna ∷ []

abbrev pub infix_symbols : List Symbol
infix_symbols = Imp ∷ Suf ∷ Bnd ∷ Trm ∷ Or ∷ And ∷ Cmp ∷ Sere ∷ Fus ∷ Alt ∷ Wtail ∷ Ctail ∷ Bor ∷ Band ∷ Bcmp ∷ []

abbrev pub PrefixRows : Type 0
PrefixRows = AllHaveRows prefix_row (marks_of prefix_symbols)

abbrev pub InfixRows : Type 0
InfixRows = AllHaveRows infix_row (marks_of infix_symbols)

-- what a sequence or a repetition begins with that is none: a brace, and the mark of a clock
abbrev pub opens_another : TokenKind → Truth
opens_another kinds.BraceOpen = true
opens_another kinds.At = true
opens_another _ = false

abbrev pub RepetitionRows : Type 0
RepetitionRows =
    list_all (λ kind. opens_another kind || is_some (repetition_row kind)) (openings (production Post) ++ openings (production Start)) ≡ true

abbrev pub StrengthRows : Type 0
StrengthRows = AllHaveRows strength_row (kinds.Next ∷ kinds.NextStrong ∷ kinds.NextEvent ∷ kinds.NextEventStrong ∷ marks next_range ++ marks event_range ++ marks until)

abbrev pub QuantifierRows : Type 0
QuantifierRows = AllHaveRows quantifier_row (marks next_range ++ marks event_range)

abbrev pub EdgeRows : Type 0
EdgeRows = AllHaveRows edge_row (marks edge)

abbrev pub DirectiveRows : Type 0
DirectiveRows = AllHaveRows directive_row (openings (production Directive))

abbrev pub DeclarationRows : Type 0
DeclarationRows = AllHaveRows declaration_row (openings (production Declaration))
