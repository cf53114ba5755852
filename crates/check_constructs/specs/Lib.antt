pub mod Kinds
pub mod Sections
