pub mod Naming
pub mod Shapes
pub mod Parsing
