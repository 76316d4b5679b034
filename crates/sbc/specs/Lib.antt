pub mod Words
pub mod Version
