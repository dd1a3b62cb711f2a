mod Answering
mod First
mod InRange
mod Lowest
mod Missing
pub mod Paths
mod Sample
