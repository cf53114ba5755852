pub mod Fitting
pub mod Search
pub mod Bytes
