pub mod Splicing
pub mod Asking
pub mod Inserting
pub mod Removing
