pub mod Sizes
pub mod Streams
pub mod Waiting
pub mod Checks
pub mod Places
pub mod Calls
