pub mod Joined
pub mod Returning
