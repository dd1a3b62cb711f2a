pub mod Circuits
pub mod Distinct
pub mod Relations
pub mod Sizes
pub mod Terms
pub mod Unrolled
