pub mod StateSets
pub mod Reading
pub mod BlockParts
