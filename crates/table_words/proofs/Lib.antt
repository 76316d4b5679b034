pub mod Backwards
pub mod Gathers
