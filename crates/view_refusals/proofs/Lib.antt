pub mod TextLines
pub mod Rows
pub mod Phrases
