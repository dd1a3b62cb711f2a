pub mod Additions
pub mod Drops
pub mod Rows
pub mod Words
