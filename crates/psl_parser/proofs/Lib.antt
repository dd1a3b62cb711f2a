mod Counting
pub mod Exits
pub mod Forms
mod LimitsProved
pub mod Making
mod Placing
pub mod Rounds
mod Standing
pub mod Taking
pub mod Whole
