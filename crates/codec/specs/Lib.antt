pub mod Answers
pub mod Found
pub mod Follows
pub mod Damage
pub mod With
