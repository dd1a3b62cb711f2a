pub mod Chains
pub mod Fields
pub mod Hints
pub mod Later
pub mod Plans
