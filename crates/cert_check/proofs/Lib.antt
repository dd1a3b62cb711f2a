mod Claiming
mod Inducing
mod Proving
mod Sizes
