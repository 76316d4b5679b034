pub mod BitReach
pub mod Calls
pub mod Scratch
