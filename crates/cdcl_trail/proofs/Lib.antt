pub mod Numbers
pub mod Marks
pub mod Paths
pub mod Renaming
