-- What holds of the answers of a text, as statements.
use Rattle.std.specs.Prelude.{◌≡◌, ◌≢◌, List}
use Rattle.psl_grammar.specs.declared.tree.UnitTree.{UnitTree}
use Rattle.psl_grammar.specs.Surface.{tree_node}
use Rattle.psl_lexer.specs.declared.token.Token.{Token}
use Rattle.psl_parser.specs.declared.fault.ParseFault.{ParseFault}
use Rattle.psl_parser.specs.declared.fault.ParseFault.TheVariants as faults
use Rattle.psl_parser.specs.Parsing.{IsParsed, IsParseFault}

-- a text has one tree at most
abbrev pub OneParsed : Type 0
OneParsed = (tokens : List Token) (first second : UnitTree) → IsParsed tokens first → IsParsed tokens second → tree_node first ≡ tree_node second

-- a text has one first fault at most
abbrev pub OneFault : Type 0
OneFault =
    (tokens : List Token) (first second : ParseFault) → first ≢ faults.NoMemory → second ≢ faults.NoMemory →
    IsParseFault tokens first → IsParseFault tokens second → first ≡ second

-- a text with a tree has no fault
abbrev pub NotBoth : Type 0
NotBoth = (tokens : List Token) (tree : UnitTree) (fault : ParseFault) → fault ≢ faults.NoMemory → IsParsed tokens tree → IsParseFault tokens fault → ⊥
