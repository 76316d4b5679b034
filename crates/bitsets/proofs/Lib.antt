pub mod Digits
pub mod Places
pub mod Rising
pub mod Words
pub mod Members
pub mod Sets
pub mod StateSets
