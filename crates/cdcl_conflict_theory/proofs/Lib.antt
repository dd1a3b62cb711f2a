pub mod Learning
pub mod Literals
pub mod Lower
pub mod Members
pub mod Passing
pub mod Returning
