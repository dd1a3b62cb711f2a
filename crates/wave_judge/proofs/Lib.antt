pub mod Faults
pub mod PointLists
pub mod Samples
pub mod Searching
pub mod Settled
pub mod Tested
pub mod Verdicts
