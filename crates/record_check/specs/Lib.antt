pub mod Accepted
pub mod Parse
pub mod Reasons
