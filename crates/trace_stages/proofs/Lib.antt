pub mod Listed
pub mod Failed
