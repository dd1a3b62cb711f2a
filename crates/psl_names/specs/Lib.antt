pub mod Alike
pub mod Ends
pub mod Ranges
pub mod Sorting
