-- What holds of the grammar and of a reader of it, as statements.
use Rattle.std.specs.Prelude.{◌≡◌, ◌↔◌, ◌⊎◌, suc, ◌<◌, ◌≤◌, List, ◌++◌, length}
use Rattle.psl_grammar.specs.Derivation.{Begins, BeginsSymbol, IsSyntaxFault, IsTree}
use Rattle.psl_grammar.specs.Parts.{Symbol, Sym}
use Rattle.psl_grammar.specs.Reading.{State, Stops, Limit, ReadsWhole, StopsWhole}
use Rattle.psl_grammar.specs.Sound.{IsSound}
use Rattle.psl_grammar.specs.Trees.{Token, Node}

-- a token list has at most one tree
abbrev pub OneTree : Type 0
OneTree = (s : Symbol) (tokens : List Token) (x y : Node) → IsTree s tokens x → IsTree s tokens y → x ≡ y

-- no tree of a token list has a wrong piece
abbrev pub TreesAreSound : Type 0
TreesAreSound = (s : Symbol) (tokens : List Token) (x : Node) → IsTree s tokens x → IsSound x

-- a symbol is begun by exactly the fronts of the lists that it derives
abbrev pub BegunByFronts : Type 0
BegunByFronts = (s : Symbol) (tokens : List Token) → BeginsSymbol s tokens ↔ ((rest : List Token) × (x : Node) × IsTree s (tokens ++ rest) x)

-- whether the tokens before a rest begin a symbol does not hang on the rest
abbrev pub RestDoesNotMatter : Type 0
RestDoesNotMatter = (s : Symbol) (tokens rest : List Token) → BeginsSymbol s tokens ↔ Begins (Sym s) (tokens ++ rest) rest

-- what begins a symbol still does when tokens are taken off its end
abbrev pub ShorterBegins : Type 0
ShorterBegins = (s : Symbol) (tokens rest : List Token) → BeginsSymbol s (tokens ++ rest) → BeginsSymbol s tokens

-- a token list has its syntax fault at one place
abbrev pub OnePlace : Type 0
OnePlace = (s : Symbol) (tokens rest other : List Token) → IsSyntaxFault s tokens rest → IsSyntaxFault s tokens other → rest ≡ other

-- a token list with a tree has no syntax fault
abbrev pub TreeHasNoFault : Type 0
TreeHasNoFault = (s : Symbol) (tokens rest : List Token) (x : Node) → IsTree s tokens x → IsSyntaxFault s tokens rest → ⊥

-- a token list has a tree or a syntax fault
abbrev pub TreeOrFault : Type 0
TreeOrFault = (s : Symbol) (tokens : List Token) → ((x : Node) × IsTree s tokens x) ⊎ ((rest : List Token) × IsSyntaxFault s tokens rest)

-- what a reader reads to the end is the tree of its tokens
abbrev pub ReadIsTree : Type 0
ReadIsTree = (s : Symbol) (from : State) (x : Node) → ReadsWhole s from x → IsTree s from.tokens x

-- where a reader finds a syntax fault, there it is
abbrev pub StopIsFault : Type 0
StopIsFault = (s : Symbol) (from stop : State) → StopsWhole s from stop → IsSyntaxFault s from.tokens stop.tokens

-- where a reader stops for a limit, the token there is the one that passes it, and no syntax fault stands there or before
abbrev pub LimitComesFirst : Type 0
LimitComesFirst =
    (s : Symbol) (from stop : State) → Stops Limit (Sym s) from stop →
    (length stop.tokens ≡ suc from.limit) × ((rest : List Token) → IsSyntaxFault s from.tokens rest → length rest < length stop.tokens)

-- no token that a reader takes to the end passes a limit
abbrev pub ReadWithinLimit : Type 0
ReadWithinLimit = (s : Symbol) (from : State) (x : Node) → ReadsWhole s from x → length from.tokens ≤ from.limit

-- no token before a syntax fault that a reader finds passes a limit
abbrev pub FaultWithinLimit : Type 0
FaultWithinLimit = (s : Symbol) (from stop : State) → StopsWhole s from stop → from.limit < length from.tokens → from.limit < length stop.tokens
