pub mod Transposed
pub mod Spread
pub mod Weaving
pub mod Checks
pub mod Calls
