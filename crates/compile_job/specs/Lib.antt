pub mod Ranges
pub mod Jobs
pub mod JobValues
