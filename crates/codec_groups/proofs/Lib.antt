pub mod Between
pub mod Counts
pub mod FirstEdges
pub mod Puts
pub mod WordGroups
pub mod AllGroups
pub mod Ranks
