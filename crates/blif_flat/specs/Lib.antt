pub mod Flat
pub mod Inputs
pub mod Lines
pub mod Listing
pub mod Naming
pub mod Trees
