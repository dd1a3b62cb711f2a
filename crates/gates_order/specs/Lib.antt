pub mod Depths
pub mod Kept
