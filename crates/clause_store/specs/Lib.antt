pub mod Fields
pub mod Stored
