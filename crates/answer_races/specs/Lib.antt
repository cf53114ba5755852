pub mod Linked
pub mod Bytes
pub mod Walked
pub mod Lines
pub mod PairsLines
