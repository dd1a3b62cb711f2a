pub mod Building
pub mod Marks
