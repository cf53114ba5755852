pub mod Chains
pub mod Marks
pub mod Below
