pub mod Asked
pub mod Built
pub mod CheckedBy
pub mod Declaring
pub mod Outcomes
pub mod Placed
pub mod Rows
pub mod Scopes
