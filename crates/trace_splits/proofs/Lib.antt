pub mod Kept
pub mod Chosen
pub mod SplitTexts
