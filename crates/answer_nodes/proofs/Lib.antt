pub mod Runs
pub mod BitTests
pub mod Joining
