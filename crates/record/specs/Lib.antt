pub mod Layout
pub mod Parse
pub mod Checks
pub mod Places
pub mod Parts
