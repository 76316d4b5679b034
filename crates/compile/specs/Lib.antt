pub mod Compile
pub mod Kinds
pub mod Stages
