pub mod FramePaths
pub mod Outputs
pub mod Shown
pub mod Stages
