pub mod Reaching
pub mod Streamed
