pub mod Streams
pub mod Waiting
