pub mod Weaving
pub mod Spread
