pub mod Additions
pub mod Parts
