pub mod Asked
pub mod Columns
pub mod Entries
pub mod Recordings
pub mod Sizes
pub mod Telling
pub mod Traceable
