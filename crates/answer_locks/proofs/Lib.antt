pub mod Picking
pub mod Partners
pub mod Turns
pub mod Sized
pub mod Needs
pub mod Written
