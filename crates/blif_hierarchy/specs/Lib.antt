pub mod Depth
pub mod Drivers
pub mod First
pub mod Laws
pub mod Order
pub mod Recursion
pub mod Sums
