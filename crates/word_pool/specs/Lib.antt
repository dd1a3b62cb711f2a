pub mod Free
pub mod Inside
pub mod Layout
pub mod Marks
pub mod Region
