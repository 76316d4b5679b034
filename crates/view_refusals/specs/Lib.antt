pub mod TextLines
pub mod Phrases
