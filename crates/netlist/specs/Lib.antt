pub mod Design
pub mod Filling
pub mod Kept
pub mod Rows
pub mod Runs
pub mod Sound
pub mod Valuations
