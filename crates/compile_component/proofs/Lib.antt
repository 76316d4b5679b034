pub mod ComponentWeights
pub mod AppendedRows
pub mod LiveArcs
pub mod ComponentValue
