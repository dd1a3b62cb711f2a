pub mod Choices
pub mod Held
pub mod Judged
pub mod Lasting
