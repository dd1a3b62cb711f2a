pub mod ClausesOnce
pub mod Entries
mod ExamplesHold
pub mod Fields
pub mod HeaderLines
pub mod Once
pub mod OneAnswer
pub mod Passed
pub mod Shows
