pub mod Window
pub mod Works
pub mod Search
pub mod Steps
