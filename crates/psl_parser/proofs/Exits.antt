-- What a method returns, by how its last step ended.
use Rattle.std.proofs.Common.{◌≡◌, sym, subst, [], ◌∷◌, Option, Some, Result, Ok, Err}
use Rattle.std.specs.Result.{IsErrAnd}
use Rattle.psl_grammar.specs.declared.tree.Count as code_count
use Rattle.psl_grammar.specs.declared.tree.Statement as code_statement
use Rattle.psl_grammar.specs.Parts.{Symbol, Part, Sym}
use Rattle.psl_grammar.specs.Reading.{State, Reads, Stops, Stops as stops}
use Rattle.psl_grammar.specs.Surface.{count_node, node_of, statement_node}
use Rattle.psl_grammar.specs.Trees.{Token, Node, Tree}
use Rattle.psl_parser.specs.declared.fault.Fault.{Fault}
use Rattle.psl_parser.specs.declared.fault.Fault.TheVariants as faults
use Rattle.psl_parser.specs.declared.make.Piece.{Piece}
use Rattle.psl_parser.specs.declared.make.Repetition.{Repetition}
use Rattle.psl_parser.specs.Steps.{reason, Parses, Parsed, Makes, MakesBy}

-- the exit of a `?`
pub exit : {A : Type 0} (reads : A → State → State → Type 0) (part : Part) {old new : State} (r : Result A Fault) (e : Fault) → IsErrAnd r (λ y. y ≡ e) → Stops (reason e) part old new → Parses reads part old r new
exit reads part (Ok x) e h s = absurd h
exit reads part {old = old} {new = new} (Err y) e h s = subst (λ z. Stops (reason z) part old new) (sym h) s

-- the same of a symbol's tree
pub leave : (s : Symbol) {old new : State} (r : Result Piece Fault) (e : Fault) → IsErrAnd r (λ y. y ≡ e) → Stops (reason e) (Sym s) old new → Parsed s old r new
leave s {old = old} {new = new} r e h x = exit (λ piece from to. Reads (Sym s) from (Tree (node_of piece.tree.value) ∷ []) to) (Sym s) {old = old} {new = new} r e h x

-- the exit of a `?` for want of memory
pub spent : {A : Type 0} (reads : A → State → State → Type 0) (part : Part) (old new : State) (r : Result A Fault) (e : Fault) → IsErrAnd r (λ y. y ≡ e) → e ≡ faults.NoMemory → Parses reads part old r new
spent reads part old new r e h m = exit reads part {old = old} {new = new} r e h (subst (λ z. Stops (reason z) part old new) (sym m) stops.memory)

-- a call that makes what is returned
pub finish : {A : Type 0} (makes : A → Type 0) (reads : A → State → State → Type 0) (part : Part) (old new : State) (r : Result A Fault) → MakesBy makes r → ((x : A) → makes x → reads x old new) → Parses reads part old r new
finish makes reads part old new (Ok x) h f = f x h
finish makes reads part old new (Err e) h f = subst (λ z. Stops (reason z) part old new) (sym h) stops.memory

-- the same of a symbol's tree
pub finished : (s : Symbol) {old new : State} (r : Result Piece Fault) (x : Node) → Makes r x → Reads (Sym s) old (Tree x ∷ []) new → Parsed s old r new
finished s {old = old} {new = new} (Ok piece) x h y = subst (λ z. Reads (Sym s) old (Tree z ∷ []) new) (sym h) y
finished s {old = old} {new = new} (Err e) x h y = subst (λ z. Stops (reason z) (Sym s) old new) (sym h) stops.memory

-- a call that is passed on
pub pass : {A : Type 0} (reads : A → State → State → Type 0) (reads' : A → State → State → Type 0) (part part' : Part) (old mid new : State) (r : Result A Fault) → Parses reads part mid r new →
    ((x : A) → reads x mid new → reads' x old new) → ((e : Fault) → Stops (reason e) part mid new → Stops (reason e) part' old new) → Parses reads' part' old r new
pass reads reads' part part' old mid new (Ok x) h f g = f x h
pass reads reads' part part' old mid new (Err e) h f g = g e h

-- a piece that a call makes, and that is returned
pub made : (reads : Piece → State → State → Type 0) (part : Part) {old new : State} (r : Result Piece Fault) (n : Node) → Makes r n → ((x : Piece) → n ≡ node_of x.tree.value → reads x old new) → Parses reads part old r new
made reads part {old = old} {new = new} r n h f = finish (λ x. node_of x.tree.value ≡ n) reads part old new r h (λ x e. f x (sym e))

-- the same of a repetition, a count, a token, a statement

pub made-repetition : (reads : Repetition → State → State → Type 0) (part : Part) {old new : State} (r : Result Repetition Fault) (o : Token) (count : Option code_count.Count) →
    MakesBy (λ x. (x.opening ≡ o) × (x.count ≡ count)) r → ((x : Repetition) → (x.opening ≡ o) × (x.count ≡ count) → reads x old new) → Parses reads part old r new
made-repetition reads part {old = old} {new = new} r o count h f = finish (λ x. (x.opening ≡ o) × (x.count ≡ count)) reads part old new r h f

pub made-count : (reads : code_count.Count → State → State → Type 0) (part : Part) {old new : State} (r : Result code_count.Count Fault) (n : Node) →
    MakesBy (λ x. count_node (Some x) ≡ n) r → ((x : code_count.Count) → count_node (Some x) ≡ n → reads x old new) → Parses reads part old r new
made-count reads part {old = old} {new = new} r n h f = finish (λ x. count_node (Some x) ≡ n) reads part old new r h f

pub made-token : (reads : Token → State → State → Type 0) (part : Part) {old new : State} (r : Result Token Fault) (n : Token) →
    MakesBy (λ x. x ≡ n) r → ((x : Token) → x ≡ n → reads x old new) → Parses reads part old r new
made-token reads part {old = old} {new = new} r n h f = finish (λ x. x ≡ n) reads part old new r h f

pub made-statement : (reads : code_statement.Statement → State → State → Type 0) (part : Part) {old new : State} (r : Result code_statement.Statement Fault) (n : Node) →
    MakesBy (λ x. statement_node x ≡ n) r → ((x : code_statement.Statement) → n ≡ statement_node x → reads x old new) → Parses reads part old r new
made-statement reads part {old = old} {new = new} r n h f = finish (λ x. statement_node x ≡ n) reads part old new r h (λ x e. f x (sym e))

-- a symbol's tree
abbrev pub tree : Symbol → Piece → State → State → Type 0
tree s piece from to = Reads (Sym s) from (Tree (node_of piece.tree.value) ∷ []) to

abbrev pub tree_by : {A : Type 0} → (A → Node) → Symbol → A → State → State → Type 0
tree_by node s x from to = Reads (Sym s) from (Tree (node x) ∷ []) to
