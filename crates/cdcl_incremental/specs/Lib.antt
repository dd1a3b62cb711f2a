pub mod Questions
pub mod Levels
pub mod Standing
pub mod GrowingFields
pub mod Cores
