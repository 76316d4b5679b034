pub mod Joins
pub mod PairSets
pub mod RowMarks
pub mod SetLaws
