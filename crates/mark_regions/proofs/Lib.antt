pub mod Entering
pub mod Naming
