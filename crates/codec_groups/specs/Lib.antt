pub mod Groups
pub mod Counts
pub mod Lent
