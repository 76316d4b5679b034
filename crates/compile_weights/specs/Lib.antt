pub mod PowerTable
pub mod Failures
