pub mod Models
pub mod Sizes
