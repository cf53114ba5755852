pub mod Answer
pub mod Unexcluded
pub mod Starred
pub mod Numbers
pub mod Size
pub mod Sheet
pub mod MoreEdges
