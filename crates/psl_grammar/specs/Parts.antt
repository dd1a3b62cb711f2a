-- What the grammar is written in: its symbols, and the parts that a production is made of.
use Rattle.psl_lexer.specs.declared.kind.TokenKind.{TokenKind}

-- The left sides of the productions, in the order in which a text is read from the outside in.
pub data Symbol : Type 0 where
  -- a whole text, its units and what stands in them
  Text Vunit Statement Directive Declaration : Symbol
  -- properties, the weakest operators first
  Prop Imp ImpRight Suf Bnd Occ Trm Clk : Symbol
  -- the operators between an abort and the things that stand alone
  Or And Cmp Una Pri Atom Path Counted : Symbol
  -- sequences in braces
  Sere Fus Alt Conj Wtail Ctail Side Start : Symbol
  -- Booleans in braces, repetitions and clocks
  Bor Band Bcmp Buna Post Clk0 Count : Symbol

-- The right side of a production.
pub data Part : Type 0 where
  -- one token of the kind
  Quoted : TokenKind → Part
  -- what the symbol's own production says
  Sym : Symbol → Part
  -- the first part, and then the second
  ◌~◌ : Part → Part → Part
  -- one of both
  ◌//◌ : Part → Part → Part
  -- the part, any number of times
  Many : Part → Part
  -- the part, at most once
  Maybe : Part → Part

infixr 7 ◌~◌
infixr 5 ◌//◌
