pub mod Examples
pub mod Named
pub mod Plain
pub mod Runs
