pub mod Buses
pub mod Examples
pub mod Letters
pub mod Spans
