pub mod TableOf
pub mod Finishing
