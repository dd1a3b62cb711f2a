mod Additions
mod Appending
mod Asking
pub mod Blocks
mod Clauses
mod Cones
mod Costs
mod Covering
mod Exceeding
pub mod Filling
mod FirstPlaces
mod Framed
pub mod Frames
mod FramesBuilt
mod Freeing
mod Gathered
pub mod Growing
mod Models
mod Ordered
mod Owing
mod Reading
mod Sizes
mod Standing
mod Telling
mod Totals
mod Wholes
mod Within
