-- The trees of the program as nodes of the grammar.
use Rattle.std.specs.Prelude.{List, [], ◌∷◌, Option, None, Some}
use Rattle.psl_grammar.specs.declared.tree.Count as code_count
use Rattle.psl_grammar.specs.declared.tree.Count.TheVariants as counts
use Rattle.psl_grammar.specs.declared.tree.Expression as code_expression
use Rattle.psl_grammar.specs.declared.tree.Expression.TheVariants as expressions
use Rattle.psl_grammar.specs.declared.tree.Statement as code_statement
use Rattle.psl_grammar.specs.declared.tree.Statement.TheVariants as statements
use Rattle.psl_grammar.specs.declared.tree.UnitTree as code_tree
use Rattle.psl_grammar.specs.declared.tree.UnitTree.TheVariants as trees
use Rattle.psl_grammar.specs.declared.tree.VerificationUnit.{VerificationUnit}
use Rattle.psl_grammar.specs.Trees.{Token, Node, Whole, UnitOf, Listed, Labelled, Directed, Declared, Prefix, Infix, Postfix, Posted, Grouped, Braced, Leaf, Named, Indexed, Edge, NextForm, Repeat, Clocked, Times, Between, Absent}

-- a count, or none
abbrev pub count_node : Option code_count.Count → Node
count_node None = Absent
count_node (Some (counts.Times number)) = Times number
count_node (Some (counts.Between low high)) = Between low high

-- a path, perhaps with an index
abbrev pub signal_node : List Token → Option Token → Node
signal_node path None = Named path
signal_node path (Some number) = Indexed (Named path) number

-- an expression
abbrev pub node_of : code_expression.Expression → Node
node_of (expressions.Prefix' operator _ x) = Prefix operator (node_of x)
node_of (expressions.Infix' _ x operator _ y) = Infix (node_of x) operator (node_of y)
node_of (expressions.Postfix' _ x operator) = Postfix (node_of x) operator
node_of (expressions.Repeated' _ x opening count) = Posted (node_of x) (Repeat opening (count_node count))
node_of (expressions.Clocked' _ x at _ clock) = Posted (node_of x) (Clocked at (node_of clock))
node_of (expressions.Grouped' opening _ x) = Grouped opening (node_of x)
node_of (expressions.Braced' opening _ x) = Braced opening (node_of x)
node_of (expressions.Repetition opening count) = Repeat opening (count_node count)
node_of (expressions.Literal token) = Leaf token
node_of (expressions.Signal path number) = signal_node path number
node_of (expressions.Edge edge path number) = Edge edge (signal_node path number)
node_of (expressions.NextTimes' word count _ x) = NextForm word Absent (count_node (Some count)) (node_of x)
node_of (expressions.NextEvent' word _ condition count _ x) = NextForm word (node_of condition) (count_node count) (node_of x)

-- the string that a directive reports, if there is one
abbrev pub report_node : Option Token → Node
report_node None = Absent
report_node (Some text) = Leaf text

-- a directive, perhaps behind a label
abbrev pub labelled_node : Option Token → Node → Node
labelled_node None x = x
labelled_node (Some label) x = Labelled label x

-- a statement
abbrev pub statement_node : code_statement.Statement → Node
statement_node (statements.Directive label word property report) =
    labelled_node label (Directed word (node_of property) (report_node report))
statement_node (statements.Declaration word name body) = Declared word name (node_of body)

-- statements, in order
abbrev pub statements_node : List code_statement.Statement → Node
statements_node [] = Absent
statements_node (statement ∷ rest) = Listed (statement_node statement) (statements_node rest)

-- the path behind a unit's name, if there is one
abbrev pub binding_node : Option (List Token) → Node
binding_node None = Absent
binding_node (Some path) = Named path

-- a verification unit
abbrev pub unit_node : VerificationUnit → Node
unit_node unit = UnitOf unit.name (binding_node unit.binding) (statements_node unit.statements)

-- verification units, in order
abbrev pub units_node : List VerificationUnit → Node
units_node [] = Absent
units_node (unit ∷ rest) = Listed (unit_node unit) (units_node rest)

-- a whole text
abbrev pub tree_node : code_tree.UnitTree → Node
tree_node (trees.Units units) = Whole (units_node units)
tree_node (trees.Statements all) = Whole (statements_node all)
