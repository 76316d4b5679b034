pub mod Traced
pub mod Beginnings
