pub mod ReachSets
