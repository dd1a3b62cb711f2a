pub mod Greedy
pub mod Points
