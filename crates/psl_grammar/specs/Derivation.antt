-- Which tokens a part of the grammar derives, and which tokens begin it.
use Rattle.std.specs.Prelude.{◌≡◌, List, [], ◌∷◌, ◌++◌}
use Rattle.psl_lexer.specs.declared.kind.TokenKind.{TokenKind}
use Rattle.psl_grammar.specs.Parts.{Symbol, Part, Quoted, Sym, ◌~◌, ◌//◌, Many, Maybe}
use Rattle.psl_grammar.specs.Productions.{production}
use Rattle.psl_grammar.specs.Trees.{Token, Node, Item, Tok, Tree, built}

-- `Derives part tokens items rest`: the tokens before `rest` are a list of the part, and it gives the items.
pub data Derives : Part → List Token → List Item → List Token → Type 0 where
  quoted : {k : TokenKind} {t : Token} {ts : List Token} → t.kind ≡ k → Derives (Quoted k) (t ∷ ts) (Tok t ∷ []) ts
  symbol : {s : Symbol} {ts rest : List Token} {f g : List Item} → Derives (production s) ts f rest → g ≡ Tree (built s f) ∷ [] → Derives (Sym s) ts g rest
  both : {a b : Part} {ts mid rest : List Token} {f g h : List Item} → Derives a ts f mid → Derives b mid g rest → h ≡ f ++ g → Derives (a ~ b) ts h rest
  left : {a b : Part} {ts rest : List Token} {f : List Item} → Derives a ts f rest → Derives (a // b) ts f rest
  right : {a b : Part} {ts rest : List Token} {f : List Item} → Derives b ts f rest → Derives (a // b) ts f rest
  end : {a : Part} {ts : List Token} → Derives (Many a) ts [] ts
  more : {a : Part} {ts mid rest : List Token} {f g h : List Item} → Derives a ts f mid → Derives (Many a) mid g rest → h ≡ f ++ g → Derives (Many a) ts h rest
  without : {a : Part} {ts : List Token} → Derives (Maybe a) ts [] ts
  with : {a : Part} {ts rest : List Token} {f : List Item} → Derives a ts f rest → Derives (Maybe a) ts f rest

-- `Begins part tokens rest`: the tokens before `rest` begin the part. They are none, or they are lists that the first
-- parts derive, and then a list that begins the next part.
pub data Begins : Part → List Token → List Token → Type 0 where
  nothing : {a : Part} {ts : List Token} → Begins a ts ts
  quoted : {k : TokenKind} {t : Token} {ts : List Token} → t.kind ≡ k → Begins (Quoted k) (t ∷ ts) ts
  symbol : {s : Symbol} {ts rest : List Token} → Begins (production s) ts rest → Begins (Sym s) ts rest
  first : {a b : Part} {ts rest : List Token} → Begins a ts rest → Begins (a ~ b) ts rest
  next : {a b : Part} {ts mid rest : List Token} (f : List Item) → Derives a ts f mid → Begins b mid rest → Begins (a ~ b) ts rest
  left : {a b : Part} {ts rest : List Token} → Begins a ts rest → Begins (a // b) ts rest
  right : {a b : Part} {ts rest : List Token} → Begins b ts rest → Begins (a // b) ts rest
  now : {a : Part} {ts rest : List Token} → Begins a ts rest → Begins (Many a) ts rest
  later : {a : Part} {ts mid rest : List Token} (f : List Item) → Derives a ts f mid → Begins (Many a) mid rest → Begins (Many a) ts rest
  maybe : {a : Part} {ts rest : List Token} → Begins a ts rest → Begins (Maybe a) ts rest

-- the tokens are a list of the symbol, with the tree
abbrev pub IsTree : Symbol → List Token → Node → Type 0
IsTree s tokens x = Derives (Sym s) tokens (Tree x ∷ []) []

-- the tokens begin the symbol
abbrev pub BeginsSymbol : Symbol → List Token → Type 0
BeginsSymbol s tokens = Begins (Sym s) tokens []

-- `IsSyntaxFault s tokens rest`: a text of the symbol has its syntax fault at the first token of `rest`, a rest of the
-- tokens, or at the end where `rest` is empty: the tokens before it begin the symbol, and with it they do not; at the
-- end they are no list of the symbol.
abbrev pub IsSyntaxFault : Symbol → List Token → List Token → Type 0
IsSyntaxFault s tokens (t ∷ rest) = Begins (Sym s) tokens (t ∷ rest) × (Begins (Sym s) tokens rest → ⊥)
IsSyntaxFault s tokens [] = Begins (Sym s) tokens [] × ((x : Node) → IsTree s tokens x → ⊥)
