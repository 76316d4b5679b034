pub mod Edges
pub mod Filled
pub mod Listings
