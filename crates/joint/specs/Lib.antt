pub mod Asked
pub mod Guards
pub mod Joined
pub mod JointView
pub mod Kept
pub mod Slices
pub mod Values
