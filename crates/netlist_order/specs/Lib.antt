pub mod Graph
pub mod Wires
pub mod State
pub mod Sound
pub mod TableGraph
