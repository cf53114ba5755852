pub mod Filling
pub mod Writes
