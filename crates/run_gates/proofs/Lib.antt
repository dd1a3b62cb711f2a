pub mod Appends
pub mod Digits
pub mod Folds
pub mod Rows
pub mod Signals
pub mod Terms
