pub mod SortedKeys
pub mod LastKey
pub mod CarriedKey
pub mod FirstEdges
pub mod KeyLists
pub mod EdgeOrder
pub mod KeptKeys
