-- What a reader of the grammar does that looks at the next token, and behind `next` at one more: which items it gives,
-- or where it stops and why. It stands between code that reads tokens and the derivations.
use Rattle.std.specs.Prelude.{◌≡◌, ◌≢◌, ◌⊎◌, ℕ, true, false, List, [], ◌∷◌, ◌++◌, length}
use Rattle.psl_lexer.specs.declared.kind.TokenKind.{TokenKind}
use Rattle.psl_grammar.specs.Firsts.{at, firsts, goes_left}
use Rattle.psl_grammar.specs.Parts.{Symbol, Part, Quoted, Sym, ◌~◌, ◌//◌, Many, Maybe}
use Rattle.psl_grammar.specs.Productions.{production}
use Rattle.psl_grammar.specs.Trees.{Token, Node, Item, Tok, Tree, built}

-- A reader: what it has before it, and the number of tokens behind the first token that passes a limit. Where no token
-- passes one, that number is no less than the number of tokens.
pub record State : Type 0 where
  pub tokens : List Token
  pub limit : ℕ

-- Why a reader stops.
pub data Fault : Type 0 where
  -- the next token, or the end, does not fit
  Syntax : Fault
  -- the next token fits and passes a limit
  Limit : Fault
  -- there is no memory for what is read
  NoMemory : Fault

-- the next token is of the kind and passes no limit; the reader steps past it
pub record Takes (k : TokenKind) (from : State) (t : Token) (to : State) : Type 0 where
  pub front : from.tokens ≡ t ∷ to.tokens
  pub kind : t.kind ≡ k
  pub below : length to.tokens ≢ from.limit
  pub limit : to.limit ≡ from.limit

-- the next token is of the kind and passes a limit; the reader stays
pub record Passes (k : TokenKind) (from stop : State) : Type 0 where
  pub token : Token
  pub rest : List Token
  pub front : from.tokens ≡ token ∷ rest
  pub kind : token.kind ≡ k
  pub reached : length rest ≡ from.limit
  pub stays : stop ≡ from

-- the reader takes the left side of `a // b`, or the right one
pub record Left (a b : Part) (from : State) : Type 0 where
  pub holds : goes_left a b from.tokens ≡ true

pub record Right (a b : Part) (from : State) : Type 0 where
  pub holds : goes_left a b from.tokens ≡ false

-- the next token can be the first of the part, or cannot
pub record Starts (a : Part) (from : State) : Type 0 where
  pub holds : at from.tokens (firsts a) ≡ true

pub record StartsNot (a : Part) (from : State) : Type 0 where
  pub holds : at from.tokens (firsts a) ≡ false

-- `Reads part from items to`: the reader reads the part, which gives the items.
pub data Reads : Part → State → List Item → State → Type 0 where
  quoted : {k : TokenKind} {from to : State} {t : Token} → Takes k from t to → Reads (Quoted k) from (Tok t ∷ []) to
  symbol : {s : Symbol} {from to : State} {f g : List Item} → Reads (production s) from f to → g ≡ Tree (built s f) ∷ [] → Reads (Sym s) from g to
  both : {a b : Part} {from mid to : State} {f g h : List Item} → Reads a from f mid → Reads b mid g to → h ≡ f ++ g → Reads (a ~ b) from h to
  left : {a b : Part} {from to : State} {f : List Item} → Left a b from → Reads a from f to → Reads (a // b) from f to
  right : {a b : Part} {from to : State} {f : List Item} → Right a b from → Reads b from f to → Reads (a // b) from f to
  end : {a : Part} {from : State} → StartsNot a from → Reads (Many a) from [] from
  more : {a : Part} {from mid to : State} {f g h : List Item} → Starts a from → Reads a from f mid → Reads (Many a) mid g to → h ≡ f ++ g → Reads (Many a) from h to
  without : {a : Part} {from : State} → StartsNot a from → Reads (Maybe a) from [] from
  with : {a : Part} {from to : State} {f : List Item} → Starts a from → Reads a from f to → Reads (Maybe a) from f to

-- `Stops fault part from stop`: the reader stops in the part, and then stands at `stop`.
pub data Stops : Fault → Part → State → State → Type 0 where
  quoted : {k : TokenKind} {from stop : State} → at from.tokens (k ∷ []) ≡ false → from ≡ stop → Stops Syntax (Quoted k) from stop
  passed : {k : TokenKind} {from stop : State} → Passes k from stop → Stops Limit (Quoted k) from stop
  memory : {a : Part} {from stop : State} → Stops NoMemory a from stop
  symbol : {z : Fault} {s : Symbol} {from stop : State} → Stops z (production s) from stop → Stops z (Sym s) from stop
  first : {z : Fault} {a b : Part} {from stop : State} → Stops z a from stop → Stops z (a ~ b) from stop
  next : {z : Fault} {a b : Part} {from mid stop : State} (f : List Item) → Reads a from f mid → Stops z b mid stop → Stops z (a ~ b) from stop
  left : {z : Fault} {a b : Part} {from stop : State} → Left a b from → Stops z a from stop → Stops z (a // b) from stop
  right : {z : Fault} {a b : Part} {from stop : State} → Right a b from → Stops z b from stop → Stops z (a // b) from stop
  now : {z : Fault} {a : Part} {from stop : State} → Starts a from → Stops z a from stop → Stops z (Many a) from stop
  later : {z : Fault} {a : Part} {from mid stop : State} (f : List Item) → Starts a from → Reads a from f mid → Stops z (Many a) mid stop → Stops z (Many a) from stop
  maybe : {z : Fault} {a : Part} {from stop : State} → Starts a from → Stops z a from stop → Stops z (Maybe a) from stop

-- the reader reads the symbol to the end of its tokens
abbrev pub ReadsWhole : Symbol → State → Node → Type 0
ReadsWhole s from x = (to : State) × Reads (Sym s) from (Tree x ∷ []) to × (to.tokens ≡ [])

-- the reader finds a syntax fault: in the symbol, or at the first token that is left behind it
abbrev pub StopsWhole : Symbol → State → State → Type 0
StopsWhole s from stop = Stops Syntax (Sym s) from stop ⊎ ((x : Node) × Reads (Sym s) from (Tree x ∷ []) stop × (stop.tokens ≢ []))
