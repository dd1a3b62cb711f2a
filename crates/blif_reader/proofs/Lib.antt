pub mod Asking
pub mod Seeking
pub mod Readings
pub mod Faulting
pub mod Steps
