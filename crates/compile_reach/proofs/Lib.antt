pub mod ReachRounds
pub mod Numbering
pub mod ComponentMembers
pub mod ReturnTests
