pub mod Choosing
pub mod RunSearch
pub mod Candidates
