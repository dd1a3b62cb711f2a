-- Worked examples: short texts, each with its first fault or with its kernel. A token is given by its kind, its text and
-- its column; what stands in a box says nothing.
use Rattle.std.specs.Prelude.{◌≡◌, ℕ, List, [], ◌∷◌, None, true, codes, Box}
use Rattle.std.specs.declared.alloc.Global.{Global}
use Rattle.psl_base.specs.declared.place.Place.{Place}
use Rattle.psl_lexer.specs.declared.kind.TokenKind.{TokenKind}
use Rattle.psl_lexer.specs.declared.kind.TokenKind.TheVariants as kinds
use Rattle.psl_lexer.specs.declared.token.Token.{Token}
use Rattle.psl_grammar.specs.declared.tree.Count.TheVariants as counts
use Rattle.psl_grammar.specs.declared.tree.Expression as code_expression
use Rattle.psl_grammar.specs.declared.tree.Expression.TheVariants as expressions
use Rattle.psl_grammar.specs.declared.tree.Statement as code_statement
use Rattle.psl_grammar.specs.declared.tree.Statement.TheVariants as statements
use Rattle.psl_grammar.specs.declared.tree.UnitTree.TheVariants as trees
use Rattle.psl_tree.specs.Trees.{Boolean, Formula, Const, Test, Not, And, One, Concat, Now, Weak, Suffix, Clocked}
use Rattle.psl_tree.specs.declared.atom.Edge.TheVariants as edges
use Rattle.psl_tree.specs.declared.directive.Kind.TheVariants as directives
use Rattle.psl_tree.specs.declared.name.Name.{Name}
use Rattle.psl_tree.specs.Sugar.{always}
use Rattle.psl_layer_theory.specs.Answers.{IsLayerFault}
use Rattle.psl_layer_theory.specs.Directives.{kernel}
use Rattle.psl_sugar.specs.Vectors.{bit_of_signal, side_by_side}
use Rattle.psl_layer_theory.specs.References.{bit_of, whole_of, refers_to}
use Rattle.psl_layer_theory.specs.declared.found.Found.TheVariants as finds
use Rattle.psl_layer_theory.specs.declared.found.Reference.{Reference}
use Rattle.psl_layer_theory.specs.declared.found.Reference.TheVariants as references
use Rattle.psl_layer_theory.specs.declared.fault.LayerFault.{LayerFault}
use Rattle.psl_layer_theory.specs.declared.fault.LayerFault.TheVariants as faults

-- what stands in the place of a box's content
abbrev pub Boxed : Type 0
Boxed = Box (Unit {0}) Global

abbrev pub at : ℕ → Place
at column = record { line = 1; column = column }

abbrev pub token : TokenKind → List ℕ → ℕ → Token
token kind text column = record { kind = kind; text = text; start = column; end = column; place = at column }

-- a mark or a word
abbrev pub mark : TokenKind → ℕ → Token
mark kind column = token kind [] column

-- a name alone
abbrev pub named : List ℕ → ℕ → code_expression.Expression
named text column = expressions.Signal (token kinds.Name text column ∷ []) None

abbrev pub entry : List ℕ → ℕ → ℕ → Name
entry text signal left = record { text = text; signal = signal; left = left; right = 0 }

-- a and b of one bit, v of four, and two signals whose names end with x
abbrev pub signals : List Name
signals = entry (codes "a") 0 0 ∷ entry (codes "b") 1 0 ∷ entry (codes "top.v") 2 3 ∷ entry (codes "m.x") 3 0 ∷ entry (codes "n.x") 4 0 ∷ []

-- an assertion that begins at a column
abbrev pub asserts : ℕ → code_expression.Expression → code_statement.Statement
asserts column property = statements.Directive None (mark kinds.Assert column) property None

abbrev pub declares : TokenKind → ℕ → List ℕ → ℕ → code_expression.Expression → code_statement.Statement
declares kind column text text_column body = statements.Declaration (mark kind column) (token kinds.Name text text_column) body

-- a text of statements is refused with a fault
abbrev pub Refused : List code_statement.Statement → LayerFault → Type 0
Refused all fault = IsLayerFault (trees.Statements all) signals fault

-- a text of statements has one directive, an assertion that begins at a column, with a formula
abbrev pub AssertsOnly : List code_statement.Statement → ℕ → Formula → Type 0
AssertsOnly all column formula =
    kernel signals (trees.Statements all) ≡ record { kind = directives.Assert; label = None; place = at column; formula = formula } ∷ []

abbrev pub bit : ℕ → ℕ → Boolean
bit signal place = Test (record { signal = signal; bit = place; edge = edges.Value })

-- assert {a && (next b)}; the operand in round brackets is no Boolean
abbrev pub next_in_sere_text : Boxed → List code_statement.Statement
next_in_sere_text box =
    asserts 1 (expressions.Braced' (mark kinds.BraceOpen 8) box (expressions.Infix' box (named (codes "a") 9) (mark kinds.AndAnd 11) box (expressions.Grouped' (mark kinds.ParenOpen 14) box (expressions.Prefix' (mark kinds.Next 15) box (named (codes "b") 20))))) ∷ []

abbrev pub NextInSere : Type 0
NextInSere = (box : Boxed) → Refused (next_in_sere_text box) (faults.Kind (at 14))

-- sequence s = {a}; assert {a && s || b}; the left operand of `||` is no Boolean, since s is none
abbrev pub sequence_in_boolean_text : Boxed → List code_statement.Statement
sequence_in_boolean_text box =
    declares kinds.Sequence 1 (codes "s") 10 (expressions.Braced' (mark kinds.BraceOpen 14) box (named (codes "a") 15))
    ∷ asserts 19 (expressions.Braced' (mark kinds.BraceOpen 26) box (expressions.Infix' box (expressions.Infix' box (named (codes "a") 27) (mark kinds.AndAnd 29) box (named (codes "s") 32)) (mark kinds.OrOr 34) box (named (codes "b") 37)))
    ∷ []

abbrev pub SequenceInBoolean : Type 0
SequenceInBoolean = (box : Boxed) → Refused (sequence_in_boolean_text box) (faults.Kind (at 27))

-- assert c; nothing is called c
abbrev pub no_such_name_text : List code_statement.Statement
no_such_name_text = asserts 1 (named (codes "c") 8) ∷ []

abbrev pub NoSuchName : Type 0
NoSuchName = Refused no_such_name_text (faults.UnknownName (at 8))

-- assert x; two signals end with x
abbrev pub two_such_names_text : List code_statement.Statement
two_such_names_text = asserts 1 (named (codes "x") 8) ∷ []

abbrev pub TwoSuchNames : Type 0
TwoSuchNames = Refused two_such_names_text (faults.Ambiguous (at 8))

-- property p = p; a declaration does not see itself
abbrev pub does_not_see_itself_text : List code_statement.Statement
does_not_see_itself_text = declares kinds.Property 1 (codes "p") 10 (named (codes "p") 14) ∷ []

abbrev pub DoesNotSeeItself : Type 0
DoesNotSeeItself = Refused does_not_see_itself_text (faults.UnknownName (at 14))

-- sequence s = {a}; property s = a; the second s is declared twice
abbrev pub declared_twice_text : Boxed → List code_statement.Statement
declared_twice_text box =
    declares kinds.Sequence 1 (codes "s") 10 (expressions.Braced' (mark kinds.BraceOpen 14) box (named (codes "a") 15))
    ∷ declares kinds.Property 19 (codes "s") 28 (named (codes "a") 32)
    ∷ []

abbrev pub DeclaredTwice : Type 0
DeclaredTwice = (box : Boxed) → Refused (declared_twice_text box) (faults.DeclaredTwice (at 28))

-- assert a == 2; a has one bit, and 2 needs two
abbrev pub too_wide_text : Boxed → List code_statement.Statement
too_wide_text box =
    asserts 1 (expressions.Infix' box (named (codes "a") 8) (mark kinds.EqualEqual 10) box (expressions.Literal (token kinds.Number (codes "2") 13))) ∷ []

abbrev pub TooWide : Type 0
TooWide = (box : Boxed) → Refused (too_wide_text box) (faults.ConstantTooWide (at 13))

-- assert next_a![2:1](a);
abbrev pub range_falls_text : Boxed → List code_statement.Statement
range_falls_text box =
    asserts 1 (expressions.NextTimes' (mark kinds.NextAStrong 8) (counts.Between (token kinds.Number (codes "2") 16) (token kinds.Number (codes "1") 18)) box (named (codes "a") 21)) ∷ []

abbrev pub RangeFalls : Type 0
RangeFalls = (box : Boxed) → Refused (range_falls_text box) (faults.EmptyRange (at 16))

-- indices of a range from 3 down to 0, and of one from 0 up to 3
pub record Indices : Type 0 where
  pub falling : bit_of (finds.One 2 3 0) 1 ≡ references.Bits (bit_of_signal 2 1 ∷ [])
  pub rising : bit_of (finds.One 2 0 3) 1 ≡ references.Bits (bit_of_signal 2 2 ∷ [])
  pub past : bit_of (finds.One 2 0 3) 4 ≡ references.Nothing
  pub whole : whole_of (finds.One 2 0 3) ≡ references.Bits (bit_of_signal 2 0 ∷ bit_of_signal 2 1 ∷ bit_of_signal 2 2 ∷ bit_of_signal 2 3 ∷ [])

-- bits of buses: u.count of two bits, told from the left; x.d and y.d of one; h without its bit 1; w, and w[0] beside it;
-- f at the indices 9 and 10; p, and a wider u.p below it
abbrev pub bus_signals : List Name
bus_signals =
    entry (codes "u.count[1]") 0 0 ∷ entry (codes "u.count[0]") 1 0
    ∷ entry (codes "x.d[0]") 2 0 ∷ entry (codes "y.d[0]") 3 0
    ∷ entry (codes "h[0]") 4 0 ∷ entry (codes "h[2]") 5 0 ∷ entry (codes "u.h[1]") 6 0
    ∷ entry (codes "w") 7 3 ∷ entry (codes "w[0]") 8 0
    ∷ entry (codes "f[9]") 9 0 ∷ entry (codes "f[10]") 10 0
    ∷ entry (codes "p[0]") 11 0 ∷ entry (codes "u.p[0]") 12 0 ∷ entry (codes "u.p[1]") 13 0
    ∷ entry (codes "m[0]") 14 3
    ∷ []

-- what a path without an index stands for among them
abbrev pub bus_text : List ℕ → Reference
bus_text text = refers_to bus_signals text None

pub record Buses : Type 0 where
  pub below : bus_text (codes "count") ≡ references.Bits (bit_of_signal 1 0 ∷ bit_of_signal 0 0 ∷ [])
  pub longer : bus_text (codes "u.count") ≡ references.Bits (bit_of_signal 1 0 ∷ bit_of_signal 0 0 ∷ [])
  pub two_owners : bus_text (codes "d") ≡ references.Several
  pub one_owner : bus_text (codes "x.d") ≡ references.Bits (bit_of_signal 2 0 ∷ [])
  -- the bit of another bus does not fill the hole
  pub hole : bus_text (codes "h") ≡ references.Nothing
  pub name_wins : bus_text (codes "w") ≡ references.Bits (side_by_side 7 0 4)
  pub above_nine : bus_text (codes "f") ≡ references.Bits (bit_of_signal 9 0 ∷ bit_of_signal 10 0 ∷ [])
  pub not_wider : bus_text (codes "p") ≡ references.Bits (bit_of_signal 11 0 ∷ [])
  -- a signal of several bits is no bit
  pub wide : bus_text (codes "m") ≡ references.Nothing
  pub none : bus_text (codes "count[2]") ≡ references.Nothing

-- assert always b; default clock = posedge a; the clock holds for the directive before it too
abbrev pub DefaultClock : Type 0
DefaultClock =
    (box : Boxed) →
    AssertsOnly
    (asserts 1 (expressions.Prefix' (mark kinds.Always 8) box (named (codes "b") 15))
    ∷ declares kinds.Default 18 (codes "clock") 26 (expressions.Edge (mark kinds.Posedge 34) (token kinds.Name (codes "a") 42 ∷ []) None)
    ∷ [])
    1 (Clocked (always (Now (bit 1 0))) (Test (record { signal = 0; bit = 0; edge = edges.Rise })))

-- sequence s = {a;b}; assert always {a} |=> s;
abbrev pub NamedSequence : Type 0
NamedSequence =
    (box : Boxed) →
    AssertsOnly
    (declares kinds.Sequence 1 (codes "s") 10 (expressions.Braced' (mark kinds.BraceOpen 14) box (expressions.Infix' box (named (codes "a") 15) (mark kinds.Semicolon 16) box (named (codes "b") 17)))
    ∷ asserts 21 (expressions.Prefix' (mark kinds.Always 28) box (expressions.Infix' box (expressions.Braced' (mark kinds.BraceOpen 35) box (named (codes "a") 36)) (mark kinds.ImpliesNext 39) box (named (codes "s") 43)))
    ∷ [])
    21 (always (Suffix (Concat (One (bit 0 0)) (One (Const true))) (Weak (Concat (One (bit 0 0)) (One (bit 1 0))))))

-- assert v == 4'b0001; the leftmost bit first
abbrev pub Comparison : Type 0
Comparison =
    (box : Boxed) →
    AssertsOnly
    (asserts 1 (expressions.Infix' box (named (codes "v") 8) (mark kinds.EqualEqual 10) box (expressions.Literal (token kinds.Constant (codes "4'b0001") 13))) ∷ [])
    1 (Now (And (And (And (Not (bit 2 3)) (Not (bit 2 2))) (Not (bit 2 1))) (bit 2 0)))
