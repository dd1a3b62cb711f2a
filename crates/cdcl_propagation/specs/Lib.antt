pub mod Adding
pub mod Packing
pub mod State
pub mod Watching
pub mod Visits
pub mod Fields
