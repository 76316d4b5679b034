pub mod Joined
pub mod Small
