pub mod Reached
pub mod AnyClosure
pub mod Exact
pub mod Breaks
pub mod Reaching
pub mod PairPlaces
