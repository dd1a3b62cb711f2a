pub mod Chains
pub mod Flags
pub mod Meanings
pub mod Numbers
pub mod Plain
pub mod Runs
pub mod Told
