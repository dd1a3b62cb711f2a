pub mod Block
pub mod BlocksView
pub mod Equations
pub mod Order
pub mod Plan
pub mod Search
pub mod Values
pub mod Words
