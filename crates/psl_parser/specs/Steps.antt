-- What the methods of the reader give, as steps of a reader of the grammar.
use Rattle.std.specs.Prelude.{◌≡◌, ◌≢◌, true, false, List, [], ◌∷◌, length, Result, Ok, Err}
use Rattle.psl_grammar.specs.Firsts.{at, has}
use Rattle.psl_grammar.specs.Parts.{Symbol, Part, Sym}
use Rattle.psl_grammar.specs.Reading as reading
use Rattle.psl_grammar.specs.Reading.{State, Reads, Stops}
use Rattle.psl_grammar.specs.Surface.{node_of}
use Rattle.psl_grammar.specs.Trees.{Token, Node, Tree}
use Rattle.psl_lexer.specs.declared.kind.TokenKind.{TokenKind}
use Rattle.psl_parser.specs.declared.fault.Fault.{Fault}
use Rattle.psl_parser.specs.declared.fault.Fault.TheVariants as faults
use Rattle.psl_parser.specs.declared.make.Piece.{Piece}
use Rattle.psl_parser.specs.declared.parser.Parser.{Parser}

-- the reader of the grammar that a reader of the program is
abbrev pub state : Parser → State
state parser = record { tokens = parser.rest.now; limit = parser.limit }

-- the grammar's word for a fault
abbrev pub reason : Fault → reading.Fault
reason faults.Syntax = reading.Syntax
reason faults.Limit = reading.Limit
reason faults.NoMemory = reading.NoMemory

-- the next token is of one of the kinds and passes no limit; the reader steps past it
pub record Took (kinds : List TokenKind) (from : State) (t : Token) (to : State) : Type 0 where
  pub front : from.tokens ≡ t ∷ to.tokens
  pub kind : has t.kind kinds ≡ true
  pub below : length to.tokens ≢ from.limit
  pub limit : to.limit ≡ from.limit

-- the next token is of none of the kinds, or there is none; the reader stays
pub record Missed (kinds : List TokenKind) (from to : State) : Type 0 where
  pub misses : at from.tokens kinds ≡ false
  pub stays : from ≡ to

-- the next token is of one of the kinds and passes a limit; the reader stays
pub record Reached (kinds : List TokenKind) (from to : State) : Type 0 where
  pub token : Token
  pub rest : List Token
  pub front : from.tokens ≡ token ∷ rest
  pub kind : has token.kind kinds ≡ true
  pub reached : length rest ≡ from.limit
  pub stays : to ≡ from

-- why no token of the kinds was taken
pub data TookNot : List TokenKind → State → Fault → State → Type 0 where
  missed : {kinds : List TokenKind} {from to : State} → Missed kinds from to → TookNot kinds from faults.Syntax to
  reached : {kinds : List TokenKind} {from to : State} → Reached kinds from to → TookNot kinds from faults.Limit to

-- what a method that reads a part gives: what it makes of the part, or why and where it stopped
abbrev pub Parses : {A : Type 0} → (A → State → State → Type 0) → Part → State → Result A Fault → State → Type 0
Parses reads part old (Ok x) new = reads x old new
Parses reads part old (Err fault) new = Stops (reason fault) part old new

-- the same of a symbol: its tree
abbrev pub ParsedBy : {A : Type 0} → (A → Node) → Symbol → State → Result A Fault → State → Type 0
ParsedBy node s old result new = Parses (λ x from to. Reads (Sym s) from (Tree (node x) ∷ []) to) (Sym s) old result new

-- the same of a symbol whose tree is an expression
abbrev pub Parsed : Symbol → State → Result Piece Fault → State → Type 0
Parsed s old result new = ParsedBy (λ piece. node_of piece.tree.value) s old result new

-- what a function that makes something gives: it, or a lack of memory
abbrev pub MakesBy : {A : Type 0} → (A → Type 0) → Result A Fault → Type 0
MakesBy makes (Ok x) = makes x
MakesBy makes (Err fault) = fault ≡ faults.NoMemory

-- the same of an expression
abbrev pub Makes : Result Piece Fault → Node → Type 0
Makes result node = MakesBy (λ piece. node_of piece.tree.value ≡ node) result
