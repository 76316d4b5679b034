pub mod Closed
pub mod Calls
