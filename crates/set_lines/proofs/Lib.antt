pub mod SetText
