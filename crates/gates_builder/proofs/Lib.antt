pub mod CubeSteps
pub mod Growing
pub mod Loops
pub mod Places
