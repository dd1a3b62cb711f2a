pub mod Changes
pub mod Fitting
pub mod Freeing
pub mod Lists
pub mod Marking
pub mod Sliding
pub mod Slots
pub mod Sound
