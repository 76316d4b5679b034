pub mod Refusals
pub mod Answers
pub mod Outcomes
pub mod FirstBad
pub mod Orders
