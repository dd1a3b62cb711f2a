pub mod Literals
pub mod Path
pub mod Renaming
pub mod Fields
