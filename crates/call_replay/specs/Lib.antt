pub mod PairsMet
pub mod Release
pub mod Playing
pub mod Team
pub mod Stored
