pub mod Laws
pub mod Stores
pub mod Filling
pub mod Sorts
pub mod Around
pub mod Roles
pub mod Marking
pub mod Whole
