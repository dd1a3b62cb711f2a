pub mod Answers
pub mod ByBits
pub mod Examples
pub mod Leaving
pub mod Paths
pub mod Recorded
