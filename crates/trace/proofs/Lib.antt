pub mod Begun
pub mod StageTexts
pub mod FailedJobs
pub mod ReadTraces
