pub mod Spreads
pub mod Ranks
pub mod RowSets
pub mod Entries
