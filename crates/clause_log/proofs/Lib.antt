pub mod Leaving
pub mod Marking
pub mod Propagating
pub mod Running
pub mod Taking
