pub mod Asking
pub mod Columns
pub mod Ending
pub mod Reading
