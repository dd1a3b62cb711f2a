pub mod Additions
pub mod Reached
pub mod Marked
