pub mod Boxed
pub mod Laws
pub mod Owed
pub mod Sized
pub mod Sizes
pub mod Violations
