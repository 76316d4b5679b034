pub mod MovedSources
pub mod Doubling
pub mod Counts
