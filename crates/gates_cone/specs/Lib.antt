pub mod Cones
pub mod Drivers
pub mod Fed
pub mod Keeping
