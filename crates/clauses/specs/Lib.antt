pub mod Entries
pub mod Flat
pub mod Literals
pub mod Live
pub mod LogFields
pub mod Logs
pub mod Models
pub mod Passing
