pub mod Numerals
pub mod Standings
pub mod Tokens
mod Values
pub mod Accepting
pub mod Growing
pub mod Lengths
pub mod Pieces
pub mod Samples
pub mod Texts
