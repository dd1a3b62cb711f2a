pub mod Laters
pub mod Naming
