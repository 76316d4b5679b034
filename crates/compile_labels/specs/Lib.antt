pub mod Labels
pub mod Parts
