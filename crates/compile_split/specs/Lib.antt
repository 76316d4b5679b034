pub mod SplitParts
