pub mod ExamplesHold
pub mod Firsts
pub mod Order
pub mod Resolved
