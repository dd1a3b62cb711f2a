pub mod Answering
pub mod Assumed
pub mod LawsHold
pub mod Limiting
pub mod Sizing
pub mod Violating
