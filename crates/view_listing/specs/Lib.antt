pub mod Edges
pub mod Listing
