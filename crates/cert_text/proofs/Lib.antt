pub mod Alone
pub mod Counting
mod ExampleHolds
pub mod Entries
pub mod Following
pub mod Inducing
pub mod Joining
pub mod Living
pub mod Passing
