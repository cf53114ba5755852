pub mod Accepted
pub mod Cutting
pub mod Loading
pub mod Rows
pub mod Columns
pub mod Tabling
