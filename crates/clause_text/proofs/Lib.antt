pub mod Numerals
pub mod Once
pub mod ReadLines
pub mod Splitting
