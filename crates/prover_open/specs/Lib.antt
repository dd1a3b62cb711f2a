pub mod Open
pub mod Standing
