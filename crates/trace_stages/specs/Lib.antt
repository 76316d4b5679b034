pub mod StageText
pub mod FailText
