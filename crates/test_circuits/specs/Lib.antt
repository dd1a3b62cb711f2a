pub mod OneLatch
pub mod PlacedOnce
pub mod PlacedTwice
