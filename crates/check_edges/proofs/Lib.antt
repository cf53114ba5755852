pub mod Order
pub mod Scopes
pub mod Sections
