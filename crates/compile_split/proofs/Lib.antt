pub mod Weighing
pub mod SplitState
pub mod OneSplit
pub mod SplitLoop
pub mod SplitLists
