pub mod Marked
pub mod Fitting
