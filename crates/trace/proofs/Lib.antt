pub mod Accepting
mod Definitions
mod Digits
pub mod FirstNames
mod ForEver
mod Growing
pub mod Letters
mod Marked
mod Ranged
pub mod Singles
mod Sizes
mod SomeDigits
mod VectorDefinitions
mod VectorEvents
pub mod VectorSamples
