-- The tree that a symbol's production makes of what its parts gave. Of a token the grammar asks the kind alone; a tree
-- keeps the whole token, with its text and its place.
use Rattle.std.specs.Prelude.{List, [], ◌∷◌}
use Rattle.psl_lexer.specs.declared.kind.TokenKind.{TokenKind}
use Rattle.psl_lexer.specs.declared.kind.TokenKind.TheVariants as kinds
pub use Rattle.psl_lexer.specs.declared.token.Token.{Token}
use Rattle.psl_grammar.specs.Parts.{Symbol, Text, Vunit, Statement, Directive, Declaration, Prop, Imp, ImpRight, Suf, Bnd, Occ, Trm, Clk, Or, And, Cmp, Una, Pri, Atom, Path, Counted, Sere, Fus, Alt, Conj, Wtail, Ctail, Side, Start, Bor, Band, Bcmp, Buna, Post, Clk0, Count}

-- A tree. It keeps the tokens that say something of its meaning or of its place, and no closing ones.
pub data Node : Type 0 where
  -- the units or the statements of a text
  Whole : Node → Node
  -- the name of a unit, the path behind it, its statements
  UnitOf : Token → Node → Node → Node
  -- a list of units or of statements
  Listed : Node → Node → Node
  -- a directive with a label
  Labelled : Token → Node → Node
  -- assert, assume or cover, its property and the text that it reports
  Directed : Token → Node → Node → Node
  -- sequence or property with its name, or default with `clock`; and what it is declared as
  Declared : Token → Token → Node → Node
  -- an operator before its operand
  Prefix : Token → Node → Node
  -- an operator between its operands
  Infix : Node → Token → Node → Node
  -- an operator behind its operand
  Postfix : Node → Token → Node
  -- what stands before a repetition or a clock, and the repetition or the clock
  Posted : Node → Node → Node
  -- in round brackets, and in braces
  Grouped Braced : Token → Node → Node
  -- a number, a constant, true, false, or a text
  Leaf : Token → Node
  -- the names of a path
  Named : List Token → Node
  -- a path with an index
  Indexed : Node → Token → Node
  -- posedge or negedge, and its path
  Edge : Token → Node → Node
  -- a next form with its condition, its count and its operand
  NextForm : Token → Node → Node → Node → Node
  -- the token that begins a repetition, and its count
  Repeat : Token → Node → Node
  -- `@` and its clock
  Clocked : Token → Node → Node
  -- one number
  Times : Token → Node
  -- two numbers, or a number and `inf`
  Between : Token → Token → Node
  -- operators that wait for what stands before them: an operator, its right operand, the operators behind
  Tail : Token → Node → Node → Node
  -- nothing stands here
  Absent : Node
  -- no production gives this
  Wrong : Node

-- What a part gives: the tokens and the trees in it, in order.
pub data Item : Type 0 where
  Tok : Token → Item
  Tree : Node → Item

-- trees one behind another, up to the first token
abbrev pub listed : List Item → Node
listed (Tree x ∷ rest) = Listed x (listed rest)
listed _ = Absent

-- operators and their right operands, associating to the left
abbrev pub infixed : Node → List Item → Node
infixed x [] = x
infixed x (Tok operator ∷ Tree y ∷ rest) = infixed (Infix x operator y) rest
infixed x _ = Wrong

-- the operators that wait, with what now stands before them, associating to the left
abbrev pub applied : Node → Node → Node
applied x Absent = x
applied x (Tail operator y rest) = applied (Infix x operator y) rest
applied x _ = Wrong

-- operators that wait, each with its right operand
abbrev pub tails : List Item → Node
tails [] = Absent
tails (Tok operator ∷ Tree y ∷ rest) = Tail operator y (tails rest)
tails _ = Wrong

-- the same, each operand with the operators that wait for it alone
abbrev pub wide_tails : List Item → Node
wide_tails [] = Absent
wide_tails (Tok operator ∷ Tree y ∷ Tree narrow ∷ rest) = Tail operator (applied y narrow) (wide_tails rest)
wide_tails _ = Wrong

-- repetitions and clocks, each applied to all before it, and at last an operator
abbrev pub posted : Node → List Item → Node
posted x [] = x
posted x (Tree post ∷ rest) = posted (Posted x post) rest
posted x (Tok operator ∷ []) = Postfix x operator
posted x _ = Wrong

-- repetitions and clocks, and then the two lists of operators that wait
abbrev pub conjoined : Node → List Item → Node
conjoined x [] = x
conjoined x (Tree narrow ∷ Tree wide ∷ []) = applied (applied x narrow) wide
conjoined x (Tree post ∷ rest) = conjoined (Posted x post) rest
conjoined x _ = Wrong

-- the names behind a path's first, each behind its dot
abbrev pub names : List Item → List Token
names (Tok dot ∷ Tok name ∷ rest) = name ∷ names rest
names _ = []

-- a path, perhaps with its index
abbrev pub indexed : Node → List Item → Node
indexed path [] = path
indexed path (Tok opening ∷ Tok number ∷ Tok closing ∷ []) = Indexed path number
indexed path _ = Wrong

-- what stands alone
abbrev pub atom : List Item → Node
atom (Tok token ∷ []) = Leaf token
atom (Tok opening ∷ Tree x ∷ Tok closing ∷ []) = Grouped opening x
atom (Tok edge ∷ Tree path ∷ rest) = Edge edge (indexed path rest)
atom (Tree path ∷ rest) = indexed path rest
atom _ = Wrong

-- what a brace or a repetition opens
abbrev pub opened : TokenKind → Token → Node → Node
opened kinds.BraceOpen opening x = Braced opening x
opened _ opening x = Repeat opening x

-- an operator before a tree, or a tree alone
abbrev pub prefixed : List Item → Node
prefixed (Tree x ∷ []) = x
prefixed (Tok operator ∷ Tree x ∷ []) = Prefix operator x
prefixed _ = Wrong

-- a tree, or two and an operator between them
abbrev pub joined : List Item → Node
joined (Tree x ∷ []) = x
joined (Tree x ∷ Tok operator ∷ Tree y ∷ []) = Infix x operator y
joined _ = Wrong

-- The tree that a symbol makes of what its production gave.
abbrev pub built : Symbol → List Item → Node
built Text items = Whole (listed items)
built Vunit (Tok unit ∷ Tok name ∷ Tok opening ∷ Tree path ∷ Tok closing ∷ Tok brace ∷ rest) = UnitOf name path (listed rest)
built Vunit (Tok unit ∷ Tok name ∷ Tok brace ∷ rest) = UnitOf name Absent (listed rest)
built Statement (Tree x ∷ []) = x
built Statement (Tok label ∷ Tok colon ∷ Tree x ∷ []) = Labelled label x
built Directive (Tok word ∷ Tree x ∷ Tok end ∷ []) = Directed word x Absent
built Directive (Tok word ∷ Tree x ∷ Tok report ∷ Tok text ∷ Tok end ∷ []) = Directed word x (Leaf text)
built Declaration (Tok word ∷ Tok name ∷ Tok equals ∷ Tree x ∷ Tok end ∷ []) = Declared word name x
built Prop items = prefixed items
built Imp items = joined items
built ImpRight items = prefixed items
built Suf items = joined items
built Bnd items = joined items
built Occ items = prefixed items
built Trm (Tree x ∷ rest) = infixed x rest
built Clk (Tree x ∷ rest) = posted x rest
built Or (Tree x ∷ rest) = infixed x rest
built And (Tree x ∷ rest) = infixed x rest
built Cmp items = joined items
built Una (Tree x ∷ Tok strong ∷ []) = Postfix x strong
built Una items = prefixed items
built Pri (Tree x ∷ []) = x
built Pri (Tok opening ∷ Tree x ∷ Tok closing ∷ []) = Braced opening x
built Atom items = atom items
built Path (Tok name ∷ rest) = Named (name ∷ names rest)
built Counted (Tok word ∷ Tok bracket ∷ Tok number ∷ Tok end ∷ Tok opening ∷ Tree x ∷ Tok closing ∷ []) = NextForm word Absent (Times number) x
built Counted (Tok word ∷ Tok bracket ∷ Tok low ∷ Tok colon ∷ Tok high ∷ Tok end ∷ Tok opening ∷ Tree x ∷ Tok closing ∷ []) =
    NextForm word Absent (Between low high) x
built Counted (Tok word ∷ Tok first ∷ Tree condition ∷ Tok last ∷ Tok opening ∷ Tree x ∷ Tok closing ∷ []) = NextForm word condition Absent x
built Counted (Tok word ∷ Tok first ∷ Tree condition ∷ Tok last ∷ Tok bracket ∷ Tok number ∷ Tok end ∷ Tok opening ∷ Tree x ∷ Tok closing ∷ []) =
    NextForm word condition (Times number) x
built Counted (Tok word ∷ Tok first ∷ Tree condition ∷ Tok last ∷ Tok bracket ∷ Tok low ∷ Tok colon ∷ Tok high ∷ Tok end ∷ Tok opening ∷ Tree x ∷ Tok closing ∷ []) =
    NextForm word condition (Between low high) x
built Sere (Tree x ∷ rest) = infixed x rest
built Fus (Tree x ∷ rest) = infixed x rest
built Alt (Tree x ∷ rest) = infixed x rest
built Conj (Tree x ∷ rest) = conjoined x rest
built Wtail items = tails items
built Ctail items = wide_tails items
built Side (Tree x ∷ rest) = posted x rest
built Start (Tok opening ∷ []) = Repeat opening Absent
built Start (Tok opening ∷ Tok closing ∷ []) = Repeat opening Absent
built Start (Tok opening ∷ Tree x ∷ Tok closing ∷ []) = opened opening.kind opening x
built Bor (Tree x ∷ rest) = infixed x rest
built Band (Tree x ∷ rest) = infixed x rest
built Bcmp items = joined items
built Buna items = prefixed items
built Post (Tok opening ∷ []) = Repeat opening Absent
built Post (Tok opening ∷ Tok closing ∷ []) = Repeat opening Absent
built Post (Tok opening ∷ Tree count ∷ Tok closing ∷ []) = Repeat opening count
built Post (Tok at ∷ Tree clock ∷ []) = Clocked at clock
built Clk0 items = atom items
built Count (Tok number ∷ []) = Times number
built Count (Tok low ∷ Tok colon ∷ Tok high ∷ []) = Between low high
built _ _ = Wrong
