pub mod SplitText
pub mod ChoiceParts
