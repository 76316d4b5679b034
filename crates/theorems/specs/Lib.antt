pub mod Main
pub mod Extensions
pub mod Examples
