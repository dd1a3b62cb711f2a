pub mod Built
pub mod InPlace
pub mod Loops
pub mod Reach
pub mod Shown
pub mod SourceLoops
