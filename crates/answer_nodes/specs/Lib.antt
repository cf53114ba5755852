pub mod Gathered
pub mod Shared
pub mod NodeSets
