pub mod Edges
pub mod Charted
pub mod Lists
pub mod Kept
pub mod Pending
pub mod Laws
pub mod Orders
