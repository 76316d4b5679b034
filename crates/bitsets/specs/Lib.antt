pub mod BitSets
pub mod StateSets
