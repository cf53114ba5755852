pub mod Admitted
pub mod Barred
pub mod BlockTables
pub mod CallLaws
pub mod CellTables
pub mod Counts
pub mod Flow
pub mod ListingCorrectLaws
