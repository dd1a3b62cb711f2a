-- The parts of productions that have methods of their own, and what these make of them.
use Rattle.std.specs.Prelude.{◌≡◌, List, [], ◌∷◌, ◌++◌, map, Option, None, Some}
use Rattle.psl_grammar.specs.declared.tree.Count as code_count
use Rattle.psl_grammar.specs.declared.tree.Statement as code_statement
use Rattle.psl_grammar.specs.declared.tree.VerificationUnit.{VerificationUnit}
use Rattle.psl_grammar.specs.Parts.{Symbol, Prop, Path, Wtail, Ctail, Sere, Post, Start, Una, Vunit, Statement, Directive, Count, Part, Quoted, Sym, ◌~◌, ◌//◌, Many, Maybe}
use Rattle.psl_grammar.specs.Productions.{grouped, index, range, next_range, event_range, edge}
use Rattle.psl_grammar.specs.Reading.{State, Reads}
use Rattle.psl_grammar.specs.Surface.{count_node, labelled_node, node_of, statement_node, unit_node}
use Rattle.psl_grammar.specs.Trees.{Token, Node, Named, Braced, Repeat, Posted, Between, Item, Tok, Tree, posted, conjoined, applied, built}
use Rattle.psl_lexer.specs.declared.kind.TokenKind.{TokenKind}
use Rattle.psl_lexer.specs.declared.kind.TokenKind.TheVariants as kinds
use Rattle.psl_parser.specs.declared.make.Piece.{Piece}
use Rattle.psl_parser.specs.declared.make.Repetition.{Repetition}

-- what an operator before an occurrence is: `next`, `next!` or `eventually!`
abbrev pub occurs : Part
occurs = Quoted kinds.Next // Quoted kinds.NextStrong // Quoted kinds.EventuallyStrong

-- the `!` that may stand behind an operand
abbrev pub strong : Part
strong = Maybe (Quoted kinds.Not)

-- { sere }
abbrev pub braces : Part
braces = Quoted kinds.BraceOpen ~ Sym Sere ~ Quoted kinds.BraceClose

-- a path, perhaps with an index
abbrev pub signal : Part
signal = Sym Path ~ Maybe index

-- an edge of a path, perhaps with an index
abbrev pub edged : Part
edged = edge ~ Sym Path ~ Maybe index

-- repetitions and clocks, and the operators that wait
abbrev pub tailed : Part
tailed = Many (Sym Post) ~ Sym Wtail ~ Sym Ctail

-- a repetition that opens with a token of the kind, perhaps with a count
abbrev pub starred : TokenKind → Part
starred kind = Quoted kind ~ Maybe (Sym Count) ~ Quoted kinds.BracketClose

-- [= count ]
abbrev pub equals : Part
equals = Quoted kinds.EqualsOpen ~ Sym Count ~ Quoted kinds.BracketClose

-- next [ NUMBER ] ( prop )
abbrev pub next_times : Part
next_times = (Quoted kinds.Next // Quoted kinds.NextStrong) ~ index ~ grouped

-- a next form with a range
abbrev pub next_ranged : Part
next_ranged = next_range ~ range ~ grouped

-- next_event ( prop ), perhaps with an index, ( prop )
abbrev pub next_event : Part
next_event = (Quoted kinds.NextEvent // Quoted kinds.NextEventStrong) ~ grouped ~ Maybe index ~ grouped

-- a next_event form with a range
abbrev pub event_ranged : Part
event_ranged = event_range ~ grouped ~ range ~ grouped

-- a label, perhaps
abbrev pub label : Part
label = Maybe (Quoted kinds.Name ~ Quoted kinds.Colon)

-- what a directive reports, perhaps
abbrev pub report : Part
report = Maybe (Quoted kinds.Report ~ Quoted kinds.Quoted)

-- the path behind a unit's name, perhaps
abbrev pub binding : Part
binding = Maybe (Quoted kinds.ParenOpen ~ Sym Path ~ Quoted kinds.ParenClose)

-- units, any number of them
abbrev pub some_units : Part
some_units = Many (Sym Vunit)

-- a declaration that begins with these two tokens
abbrev pub declares : TokenKind → TokenKind → Part
declares word name = Quoted word ~ Quoted name ~ Quoted kinds.Equals ~ Sym Prop ~ Quoted kinds.Semicolon

-- the first tokens of a directive and of its label
abbrev pub labelled_first : List TokenKind
labelled_first = kinds.Name ∷ kinds.Assert ∷ kinds.Assume ∷ kinds.Cover ∷ []

-- the tree that a function makes of the part's items
pub record GaveBy {A : Type 0} (node : A → Node) (make : List Item → Node) (part : Part) (x : A) (from to : State) : Type 0 where
  pub items : List Item
  pub same : make items ≡ node x
  pub reads : Reads part from items to

-- the same of an expression
abbrev pub Gave : (List Item → Node) → Part → Piece → State → State → Type 0
Gave make part piece from to = GaveBy (λ x. node_of x.tree.value) make part piece from to

-- what stands in round brackets
pub record ReadsGroup (piece : Piece) (from to : State) : Type 0 where
  pub opening : Token
  pub closing : Token
  pub reads : Reads grouped from (Tok opening ∷ Tree (node_of piece.tree.value) ∷ Tok closing ∷ []) to

-- what stands in braces
pub record ReadsBraces (piece : Piece) (from to : State) : Type 0 where
  pub opening : Token
  pub closing : Token
  pub inside : Node
  pub kind : opening.kind ≡ kinds.BraceOpen
  pub same : Braced opening inside ≡ node_of piece.tree.value
  pub reads : Reads braces from (Tok opening ∷ Tree inside ∷ Tok closing ∷ []) to

-- an operand, perhaps with `!` behind it
pub record ReadsStrength (operand piece : Piece) (from to : State) : Type 0 where
  pub items : List Item
  pub posted : posted (node_of operand.tree.value) items ≡ node_of piece.tree.value
  pub unary : built Una (Tree (node_of operand.tree.value) ∷ items) ≡ node_of piece.tree.value
  pub reads : Reads strong from items to

-- one repetition or clock behind an operand
pub record ReadsPost (operand piece : Piece) (from to : State) : Type 0 where
  pub post : Node
  pub same : Posted (node_of operand.tree.value) post ≡ node_of piece.tree.value
  pub reads : Reads (Sym Post) from (Tree post ∷ []) to

-- With the items of repetitions and clocks `start` becomes `now`, whatever stands behind them.
pub record PostsThrough (start now : Node) (items : List Item) : Type 0 where
  pub posted : (g : List Item) → posted start (items ++ g) ≡ posted now g
  pub conjoined : (a b : Node) (g : List Item) → conjoined start (items ++ Tree a ∷ Tree b ∷ g) ≡ conjoined now (Tree a ∷ Tree b ∷ g)

-- repetitions and clocks behind an operand
pub record ReadsPosts (operand piece : Piece) (from to : State) : Type 0 where
  pub items : List Item
  pub through : PostsThrough (node_of operand.tree.value) (node_of piece.tree.value) items
  pub reads : Reads (Many (Sym Post)) from items to

-- an operand, and the operators that wait for it
pub record ReadsTail (s : Symbol) (operand piece : Piece) (from to : State) : Type 0 where
  pub tail : Node
  pub same : applied (node_of operand.tree.value) tail ≡ node_of piece.tree.value
  pub reads : Reads (Sym s) from (Tree tail ∷ []) to

-- an operand, its repetitions and clocks, and the operators that wait for it
abbrev pub ReadsTails : Piece → Piece → State → State → Type 0
ReadsTails operand piece from to = Gave (conjoined (node_of operand.tree.value)) tailed piece from to

-- a repetition that one of two forms makes
pub record ReadsRepetition (kind : TokenKind) (repetition : Repetition) (from to : State) : Type 0 where
  pub items : List Item
  pub post : built Post items ≡ Repeat repetition.opening (count_node repetition.count)
  pub start : kind ≡ kinds.StarOpen → built Start items ≡ Repeat repetition.opening (count_node repetition.count)
  pub reads : Reads (starred kind) from items to

-- `[+]`
pub record ReadsPlain (repetition : Repetition) (from to : State) : Type 0 where
  pub none : repetition.count ≡ None
  pub reads : Reads (Quoted kinds.PlusRepeat) from (Tok repetition.opening ∷ []) to

-- `[=` with its count
pub record ReadsEquals (repetition : Repetition) (from to : State) : Type 0 where
  pub closing : Token
  pub reads : Reads equals from (Tok repetition.opening ∷ Tree (count_node repetition.count) ∷ Tok closing ∷ []) to

-- a count
abbrev pub ReadsCount : code_count.Count → State → State → Type 0
ReadsCount count from to = Reads (Sym Count) from (Tree (count_node (Some count)) ∷ []) to

abbrev pub count_items : Option code_count.Count → List Item
count_items None = []
count_items (Some count) = Tree (count_node (Some count)) ∷ []

abbrev pub ReadsOptionalCount : Option code_count.Count → State → State → Type 0
ReadsOptionalCount count from to = Reads (Maybe (Sym Count)) from (count_items count) to

-- a path
abbrev pub ReadsPath : List Token → State → State → Type 0
ReadsPath path from to = Reads (Sym Path) from (Tree (Named path) ∷ []) to

-- an index
pub record ReadsIndex (number : Token) (from to : State) : Type 0 where
  pub opening : Token
  pub closing : Token
  pub reads : Reads index from (Tok opening ∷ Tok number ∷ Tok closing ∷ []) to

pub record ReadsSomeIndex (number : Token) (from to : State) : Type 0 where
  pub opening : Token
  pub closing : Token
  pub reads : Reads (Maybe index) from (Tok opening ∷ Tok number ∷ Tok closing ∷ []) to

abbrev pub ReadsOptionalIndex : Option Token → State → State → Type 0
ReadsOptionalIndex None from to = Reads (Maybe index) from [] to
ReadsOptionalIndex (Some number) from to = ReadsSomeIndex number from to

-- a range
pub record ReadsRange (count : code_count.Count) (from to : State) : Type 0 where
  pub opening : Token
  pub low : Token
  pub colon : Token
  pub high : Token
  pub closing : Token
  pub same : count_node (Some count) ≡ Between low high
  pub reads : Reads range from (Tok opening ∷ Tok low ∷ Tok colon ∷ Tok high ∷ Tok closing ∷ []) to

-- a label
pub record ReadsSomeLabel (name : Token) (from to : State) : Type 0 where
  pub colon : Token
  pub reads : Reads label from (Tok name ∷ Tok colon ∷ []) to

abbrev pub ReadsLabel : Option Token → State → State → Type 0
ReadsLabel None from to = Reads label from [] to
ReadsLabel (Some name) from to = ReadsSomeLabel name from to

-- what a directive reports
pub record ReadsSomeReport (text : Token) (from to : State) : Type 0 where
  pub word : Token
  pub reads : Reads report from (Tok word ∷ Tok text ∷ []) to

abbrev pub ReadsReport : Option Token → State → State → Type 0
ReadsReport None from to = Reads report from [] to
ReadsReport (Some text) from to = ReadsSomeReport text from to

-- the path behind a unit's name
pub record ReadsSomeBinding (path : List Token) (from to : State) : Type 0 where
  pub opening : Token
  pub closing : Token
  pub reads : Reads binding from (Tok opening ∷ Tree (Named path) ∷ Tok closing ∷ []) to

abbrev pub ReadsBinding : Option (List Token) → State → State → Type 0
ReadsBinding None from to = Reads binding from [] to
ReadsBinding (Some path) from to = ReadsSomeBinding path from to

-- a directive behind a label that is read
pub record ReadsDirective (name : Option Token) (statement : code_statement.Statement) (from to : State) : Type 0 where
  pub node : Node
  pub same : labelled_node name node ≡ statement_node statement
  pub reads : Reads (Sym Directive) from (Tree node ∷ []) to

-- statements, and units
abbrev pub statement_items : List code_statement.Statement → List Item
statement_items all = map (λ statement. Tree (statement_node statement)) all

abbrev pub ReadsStatements : List code_statement.Statement → State → State → Type 0
ReadsStatements all from to = Reads (Many (Sym Statement)) from (statement_items all) to

abbrev pub unit_items : List VerificationUnit → List Item
unit_items all = map (λ unit. Tree (unit_node unit)) all

abbrev pub ReadsUnits : List VerificationUnit → State → State → Type 0
ReadsUnits all from to = Reads (Many (Sym Vunit)) from (unit_items all) to
