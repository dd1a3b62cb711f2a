mod Following
mod Joined
mod Letters
mod Ranges
mod Spanning
