pub mod Ending
pub mod Acting
