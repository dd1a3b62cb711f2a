pub mod Counted
pub mod Laws
pub mod LimitLaws
pub mod Limits
pub mod Parsing
pub mod Pieces
pub mod Statements
pub mod Steps
-- what the crates above name of the trees that are read
pub use Rattle.psl_grammar.specs.Surface
pub use Rattle.psl_grammar.specs.declared.tree.UnitTree
