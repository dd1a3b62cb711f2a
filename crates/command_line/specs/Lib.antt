pub mod Chains
pub mod Clap
pub mod Commands
pub mod Evidences
pub mod Kinds
pub mod Numbers
pub mod Plain
pub mod Ranges
