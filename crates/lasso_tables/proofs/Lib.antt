pub mod Letters
pub mod Pushed
