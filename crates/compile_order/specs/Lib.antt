pub mod EdgeKeys
