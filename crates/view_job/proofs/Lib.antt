pub mod Onward
pub mod Lengths
pub mod Calls
