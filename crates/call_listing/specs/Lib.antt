pub mod Extent
pub mod Stored
pub mod Reads
pub mod Chart
