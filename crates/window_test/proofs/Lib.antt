pub mod TwoEdges
pub mod ReadyWords
pub mod StepPairs
pub mod SetsOf
pub mod Stepped
