pub mod Flats
pub mod Lives
pub mod Packed
pub mod Soundness
pub mod Within
