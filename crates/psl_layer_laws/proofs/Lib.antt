mod Cleared
pub mod Compared
mod RangedExpressions
mod RangedLookUp
mod RangedOperators
pub mod RangedStatements
pub mod TreeLaws
mod Unboxed
