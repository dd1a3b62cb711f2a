pub mod Booleans
pub mod Combinations
pub mod Extending
pub mod Letters
