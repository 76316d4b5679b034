pub mod Obeys
pub mod Obeying
