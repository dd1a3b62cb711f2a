mod Closing
mod Counting
pub mod Feeding
mod Kept
mod Noting
mod Reading
mod SameFrames
