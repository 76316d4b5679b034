pub mod LimitLines
pub mod Shown
