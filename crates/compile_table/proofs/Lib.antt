pub mod Rows
pub mod TableOf
pub mod Marks
pub mod Closure
pub mod Ranks
pub mod RowPuts
pub mod Tables
pub mod Finishing
