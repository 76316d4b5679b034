pub mod Limits
pub mod Shown
