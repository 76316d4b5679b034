pub mod StateSteps
pub mod SetSteps
pub mod GroupTurns
pub mod StateWords
pub mod Readings
pub mod Shorter
