pub mod Extending
pub mod Selectors
pub mod Texts
