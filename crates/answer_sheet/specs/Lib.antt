pub mod Fan
pub mod Eights
pub mod Sheet
