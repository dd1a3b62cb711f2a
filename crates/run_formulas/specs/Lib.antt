pub mod Adding
pub mod Windows
