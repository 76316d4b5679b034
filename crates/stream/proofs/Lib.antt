pub mod Written
pub mod Decoded
pub mod Returns
pub mod Calls
pub mod Read
