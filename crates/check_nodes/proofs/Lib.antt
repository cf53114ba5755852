pub mod Alone
pub mod Outer
pub mod Counted
pub mod Ones
pub mod Framing
