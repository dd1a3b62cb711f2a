pub mod Meeting
pub mod Standing
pub mod Levels
pub mod Rests
pub mod Cores
pub mod Asking
