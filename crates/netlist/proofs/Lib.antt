pub mod Driving
pub mod Filled
pub mod Following
pub mod Held
pub mod Named
pub mod RowLists
pub mod Uniqueness
pub mod Walking
