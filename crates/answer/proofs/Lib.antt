pub mod Outcomes
pub mod Cases
pub mod FirstBad
pub mod RefusedOutcomes
pub mod Due
pub mod Orders
pub mod Answered
