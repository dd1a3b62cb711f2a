mod Exact
pub mod Listed
mod Listing
mod Masks
mod Taking
