pub mod Outputs
pub mod OutputCorrectLaws
