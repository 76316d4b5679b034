pub mod Lists
pub mod Pairs
pub mod Joined
pub mod PairLists
pub mod Numbered
