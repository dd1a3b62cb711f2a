mod Defining
mod FirstUnknown
pub mod Firsts
mod Holding
pub mod Joining
mod Latest
pub mod Letters
mod Places
mod Rows
mod Saying
mod Shaped
mod Short
mod Starting
mod Telling
mod Times
mod Unknowns
mod Values
