pub mod Atoms
pub mod Digits
pub mod Passing
pub mod Ranks
pub mod Readings
