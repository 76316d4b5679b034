pub mod Fronts
pub mod Verify
pub mod Counting
