pub mod Alike
pub mod Guarded
pub mod Lists
pub mod Neighbours
pub mod Offers
pub mod Pending
pub mod Pushed
