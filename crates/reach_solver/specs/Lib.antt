pub mod Fields
pub mod Solvers
pub mod Texts
