pub mod BooleanValues
pub mod CombinationValues
pub mod Growing
pub mod Parts
pub mod Shown
