pub mod Examples
pub mod Frames
pub mod Paths
