-- Which token comes next, and what it says of a part: whether it can be the first token of a list of the part.
use Rattle.std.specs.Prelude.{Bool, true, false, not, ◌&&◌, ◌||◌, if◌then◌else◌, List, [], ◌∷◌, ◌++◌}
use denote.Enum.Bare.{sameb}
use Rattle.psl_lexer.specs.contracts.kind.TokenKind.{the_type}
use Rattle.psl_lexer.specs.declared.kind.TokenKind.{TokenKind}
use Rattle.psl_lexer.specs.declared.kind.TokenKind.TheVariants as kinds
use Rattle.psl_grammar.specs.Parts.{Symbol, Text, Vunit, Statement, Directive, Declaration, Prop, Imp, ImpRight, Suf, Bnd, Occ, Trm, Clk, Or, And, Cmp, Una, Pri, Atom, Path, Counted, Sere, Fus, Alt, Conj, Wtail, Ctail, Side, Start, Bor, Band, Bcmp, Buna, Post, Clk0, Count, Part, Quoted, Sym, ◌~◌, ◌//◌, Many, Maybe}
use Rattle.psl_grammar.specs.Trees.{Token}

-- the kind stands in the list; the test is the one of `==` on kinds
abbrev pub has : TokenKind → List TokenKind → Bool
has k [] = false
has k (j ∷ js) = sameb the_type k j || has k js

-- the next token is of one of the kinds; at the end there is none
abbrev pub at : List Token → List TokenKind → Bool
at [] ks = false
at (t ∷ ts) ks = has t.kind ks

-- the token behind the next one is `[`
abbrev pub before_bracket : List Token → Bool
before_bracket [] = false
before_bracket (t ∷ ts) = at ts (kinds.BracketOpen ∷ [])

-- the symbol derives the empty list
abbrev pub empty_of : Symbol → Bool
empty_of Text = true
empty_of Wtail = true
empty_of Ctail = true
empty_of _ = false

-- the part derives the empty list
abbrev pub is_empty : Part → Bool
is_empty (Quoted k) = false
is_empty (Sym s) = empty_of s
is_empty (a ~ b) = is_empty a && is_empty b
is_empty (a // b) = is_empty a || is_empty b
is_empty (Many a) = true
is_empty (Maybe a) = true

-- the first tokens of an atom
abbrev pub atom_first : List TokenKind
atom_first = kinds.Name ∷ kinds.Number ∷ kinds.Constant ∷ kinds.True ∷ kinds.False ∷ kinds.Posedge ∷ kinds.Negedge ∷ kinds.ParenOpen ∷ []

-- of a Boolean in braces
abbrev pub bool_first : List TokenKind
bool_first = kinds.Not ∷ atom_first

-- of anything else in braces
abbrev pub braced_first : List TokenKind
braced_first = kinds.BraceOpen ∷ kinds.StarOpen ∷ kinds.PlusRepeat ∷ bool_first

-- of a counted next form
abbrev pub counted_first : List TokenKind
counted_first =
    kinds.Next ∷ kinds.NextStrong ∷ kinds.NextA ∷ kinds.NextAStrong ∷ kinds.NextE ∷ kinds.NextEStrong ∷
    kinds.NextEvent ∷ kinds.NextEventStrong ∷ kinds.NextEventA ∷ kinds.NextEventAStrong ∷ kinds.NextEventE ∷ kinds.NextEventEStrong ∷ []

-- of what stands alone outside braces
abbrev pub pri_first : List TokenKind
pri_first = kinds.BraceOpen ∷ atom_first ++ counted_first

-- of an operand
abbrev pub una_first : List TokenKind
una_first = kinds.Not ∷ pri_first

-- of a property with no operator before it but `next` and `eventually!`
abbrev pub occ_first : List TokenKind
occ_first = kinds.EventuallyStrong ∷ una_first

-- of a property
abbrev pub prop_first : List TokenKind
prop_first = kinds.Always ∷ kinds.Never ∷ occ_first

-- of a directive without a label
abbrev pub directive_first : List TokenKind
directive_first = kinds.Assert ∷ kinds.Assume ∷ kinds.Cover ∷ []

-- of a declaration
abbrev pub declaration_first : List TokenKind
declaration_first = kinds.Sequence ∷ kinds.Property ∷ kinds.Default ∷ []

-- of a statement
abbrev pub statement_first : List TokenKind
statement_first = kinds.Name ∷ directive_first ++ declaration_first

-- of a repetition or a clock
abbrev pub post_first : List TokenKind
post_first = kinds.GotoOpen ∷ kinds.PlusRepeat ∷ kinds.StarOpen ∷ kinds.EqualsOpen ∷ kinds.At ∷ []

-- the first tokens of the lists that a symbol derives
abbrev pub first_of : Symbol → List TokenKind
first_of Text = kinds.Vunit ∷ statement_first
first_of Vunit = kinds.Vunit ∷ []
first_of Statement = statement_first
first_of Directive = directive_first
first_of Declaration = declaration_first
first_of Prop = prop_first
first_of Imp = occ_first
first_of ImpRight = prop_first
first_of Suf = occ_first
first_of Bnd = occ_first
first_of Occ = occ_first
first_of Trm = una_first
first_of Clk = una_first
first_of Or = una_first
first_of And = una_first
first_of Cmp = una_first
first_of Una = una_first
first_of Pri = pri_first
first_of Atom = atom_first
first_of Path = kinds.Name ∷ []
first_of Counted = counted_first
first_of Sere = braced_first
first_of Fus = braced_first
first_of Alt = braced_first
first_of Conj = braced_first
first_of Wtail = kinds.Within ∷ []
first_of Ctail = kinds.AndAnd ∷ kinds.Ampersand ∷ []
first_of Side = braced_first
first_of Start = kinds.PlusRepeat ∷ kinds.StarOpen ∷ kinds.BraceOpen ∷ []
first_of Bor = bool_first
first_of Band = bool_first
first_of Bcmp = bool_first
first_of Buna = bool_first
first_of Post = post_first
first_of Clk0 = kinds.Name ∷ kinds.True ∷ kinds.False ∷ kinds.Posedge ∷ kinds.Negedge ∷ kinds.ParenOpen ∷ []
first_of Count = kinds.Number ∷ []

-- the first tokens of the lists that a part derives
abbrev pub firsts : Part → List TokenKind
firsts (Quoted k) = k ∷ []
firsts (Sym s) = first_of s
firsts (a ~ b) = firsts a ++ (if is_empty a then firsts b else [])
firsts (a // b) = firsts a ++ firsts b
firsts (Many a) = firsts a
firsts (Maybe a) = firsts a

-- A reader of `a // b` takes the left part: the next token can be the first of it. Where it can be the first of both
-- parts, as `next` can, it is the left part's unless `[` stands behind it.
abbrev pub goes_left : Part → Part → List Token → Bool
goes_left a b ts = at ts (firsts a) && not (at ts (firsts b) && before_bracket ts)
