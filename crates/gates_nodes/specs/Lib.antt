pub mod Clauses
pub mod Folding
pub mod Makes
pub mod Nodes
pub mod Tables
