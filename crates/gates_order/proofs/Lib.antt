mod Depths
mod Graphs
pub mod Orders
mod Places
mod Rising
mod Steps
