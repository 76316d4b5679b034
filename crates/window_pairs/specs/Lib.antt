pub mod PairSets
