pub mod Arcs
pub mod Weights
pub mod Component
pub mod Splitting
pub mod Invariant
pub mod Value
pub mod Rule
pub mod Reachable
