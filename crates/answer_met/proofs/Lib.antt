pub mod SetBits
pub mod Meeting
