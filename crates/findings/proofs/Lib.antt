pub mod Beginnings
pub mod Certified
pub mod Clausal
pub mod Entries
pub mod Faults
pub mod FirstNames
pub mod JointSizes
pub mod Numbers
mod Paths
pub mod Recordable
pub mod Shown
pub mod Telling
