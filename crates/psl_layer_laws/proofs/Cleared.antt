-- Trees of the program without what says where it keeps their parts, and how they are read from nodes of the grammar.
use Rattle.std.proofs.Common.{◌≡◌, refl, ◌∙◌, List, [], ◌∷◌, Option, None, Some, Box, Global}
use Rattle.std.proofs.Handle.{handle}
use denote.RawPtr.{null_ptr}
use Rattle.psl_lexer.specs.declared.kind.TokenKind.TheVariants as kinds
use Rattle.psl_grammar.specs.declared.tree.Count as code_count
use Rattle.psl_grammar.specs.declared.tree.Count.TheVariants as counts
use Rattle.psl_grammar.specs.declared.tree.Expression as code_expression
use Rattle.psl_grammar.specs.declared.tree.Expression.TheVariants as expressions
use Rattle.psl_grammar.specs.declared.tree.Statement as code_statement
use Rattle.psl_grammar.specs.declared.tree.Statement.TheVariants as statements
use Rattle.psl_grammar.specs.Surface.{count_node, node_of, report_node, statement_node, statements_node}
use Rattle.psl_grammar.specs.Trees as nodes
use Rattle.psl_grammar.specs.Trees.{Token, Node}

-- a box that stands for all
abbrev box : Box (Unit {0}) Global
box = record { ptr = null_ptr; alloc = handle; value = tt }

-- an expression in such boxes
abbrev pub clear : code_expression.Expression → code_expression.Expression
clear (expressions.Prefix' op _ x) = expressions.Prefix' op box (clear x)
clear (expressions.Infix' _ x op _ y) = expressions.Infix' box (clear x) op box (clear y)
clear (expressions.Postfix' _ x op) = expressions.Postfix' box (clear x) op
clear (expressions.Repeated' _ x opening count) = expressions.Repeated' box (clear x) opening count
clear (expressions.Clocked' _ x at _ clock) = expressions.Clocked' box (clear x) at box (clear clock)
clear (expressions.Grouped' opening _ x) = expressions.Grouped' opening box (clear x)
clear (expressions.Braced' opening _ x) = expressions.Braced' opening box (clear x)
clear (expressions.Repetition opening count) = expressions.Repetition opening count
clear (expressions.Literal token) = expressions.Literal token
clear (expressions.Signal path index) = expressions.Signal path index
clear (expressions.Edge edge path index) = expressions.Edge edge path index
clear (expressions.NextTimes' word count _ x) = expressions.NextTimes' word count box (clear x)
clear (expressions.NextEvent' word _ condition count _ x) = expressions.NextEvent' word box (clear condition) count box (clear x)

-- statements of such expressions
abbrev pub clear_statement : code_statement.Statement → code_statement.Statement
clear_statement (statements.Directive label word x report) = statements.Directive label word (clear x) report
clear_statement (statements.Declaration word name body) = statements.Declaration word name (clear body)

abbrev pub clear_all : List code_statement.Statement → List code_statement.Statement
clear_all [] = []
clear_all (x ∷ xs) = clear_statement x ∷ clear_all xs

-- a count of a node
abbrev read_count : Node → Option code_count.Count
read_count (nodes.Times number) = Some (counts.Times number)
read_count (nodes.Between low high) = Some (counts.Between low high)
read_count _ = None

-- an expression of a node
abbrev read : Node → code_expression.Expression
read (nodes.Prefix op x) = expressions.Prefix' op box (read x)
read (nodes.Infix x op y) = expressions.Infix' box (read x) op box (read y)
read (nodes.Postfix x op) = expressions.Postfix' box (read x) op
read (nodes.Posted x (nodes.Repeat opening count)) = expressions.Repeated' box (read x) opening (read_count count)
read (nodes.Posted x (nodes.Clocked at clock)) = expressions.Clocked' box (read x) at box (read clock)
read (nodes.Grouped opening x) = expressions.Grouped' opening box (read x)
read (nodes.Braced opening x) = expressions.Braced' opening box (read x)
read (nodes.Repeat opening count) = expressions.Repetition opening (read_count count)
read (nodes.Leaf token) = expressions.Literal token
read (nodes.Named path) = expressions.Signal path None
read (nodes.Indexed (nodes.Named path) number) = expressions.Signal path (Some number)
read (nodes.Edge edge (nodes.Named path)) = expressions.Edge edge path None
read (nodes.Edge edge (nodes.Indexed (nodes.Named path) number)) = expressions.Edge edge path (Some number)
read (nodes.NextForm word nodes.Absent (nodes.Times number) x) = expressions.NextTimes' word (counts.Times number) box (read x)
read (nodes.NextForm word nodes.Absent (nodes.Between low high) x) = expressions.NextTimes' word (counts.Between low high) box (read x)
read (nodes.NextForm word condition count x) = expressions.NextEvent' word box (read condition) (read_count count) box (read x)
read _ = expressions.Signal [] None

count-read : (count : Option code_count.Count) → read_count (count_node count) ≡ count
count-read None = refl
count-read (Some (counts.Times number)) = refl
count-read (Some (counts.Between low high)) = refl

-- no expression is nothing, so its node is a next event's condition
event-read : (word : Token) (c : code_expression.Expression) (count x : Node) →
    read (nodes.NextForm word (node_of c) count x) ≡ expressions.NextEvent' word box (read (node_of c)) (read_count count) box (read x)
event-read word (expressions.Signal path None) count x = refl
event-read word (expressions.Signal path (Some number)) count x = refl
event-read word _ count x = refl

-- what is read from the node of an expression
pub read-clear : (x : code_expression.Expression) → read (node_of x) ≡ clear x
read-clear (expressions.Prefix' op _ x) = rw (read-clear x) refl
read-clear (expressions.Infix' _ x op _ y) = rw (read-clear x, read-clear y) refl
read-clear (expressions.Postfix' _ x op) = rw (read-clear x) refl
read-clear (expressions.Repeated' _ x opening count) = rw (read-clear x, count-read count) refl
read-clear (expressions.Clocked' _ x at _ clock) = rw (read-clear x, read-clear clock) refl
read-clear (expressions.Grouped' opening _ x) = rw (read-clear x) refl
read-clear (expressions.Braced' opening _ x) = rw (read-clear x) refl
read-clear (expressions.Repetition opening count) = rw (count-read count) refl
read-clear (expressions.Literal token) = refl
read-clear (expressions.Signal path None) = refl
read-clear (expressions.Signal path (Some number)) = refl
read-clear (expressions.Edge edge path None) = refl
read-clear (expressions.Edge edge path (Some number)) = refl
read-clear (expressions.NextTimes' word (counts.Times number) _ x) = rw (read-clear x) refl
read-clear (expressions.NextTimes' word (counts.Between low high) _ x) = rw (read-clear x) refl
read-clear (expressions.NextEvent' word _ c count _ x) = event-read word c (count_node count) (node_of x) ∙ rw (read-clear c, count-read count, read-clear x) refl

-- statements of nodes
abbrev read_report : Node → Option Token
read_report (nodes.Leaf text) = Some text
read_report _ = None

abbrev nothing : Token
nothing = record { kind = kinds.Name; text = []; start = 0; end = 0; place = record { line = 1; column = 1 } }

abbrev pub read_statement : Node → code_statement.Statement
read_statement (nodes.Labelled label (nodes.Directed word x report)) = statements.Directive (Some label) word (read x) (read_report report)
read_statement (nodes.Directed word x report) = statements.Directive None word (read x) (read_report report)
read_statement (nodes.Declared word name body) = statements.Declaration word name (read body)
read_statement _ = statements.Declaration nothing nothing (expressions.Signal [] None)

abbrev pub read_statements : Node → List code_statement.Statement
read_statements (nodes.Listed x rest) = read_statement x ∷ read_statements rest
read_statements _ = []

report-read : (report : Option Token) → read_report (report_node report) ≡ report
report-read None = refl
report-read (Some text) = refl

statement-read : (x : code_statement.Statement) → read_statement (statement_node x) ≡ clear_statement x
statement-read (statements.Directive None word x report) = rw (read-clear x, report-read report) refl
statement-read (statements.Directive (Some label) word x report) = rw (read-clear x, report-read report) refl
statement-read (statements.Declaration word name body) = rw (read-clear body) refl

pub statements-read : (xs : List code_statement.Statement) → read_statements (statements_node xs) ≡ clear_all xs
statements-read [] = refl
statements-read (x ∷ xs) = rw (statement-read x, statements-read xs) refl
