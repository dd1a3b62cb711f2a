pub mod Counts
pub mod Lines
pub mod Listed
pub mod Made
pub mod Names
pub mod Sound
pub mod Splitting
pub mod Unfolded
