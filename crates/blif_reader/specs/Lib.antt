pub mod Faults
pub mod Hierarchy
pub mod Kept
pub mod Meaning
pub mod Told
