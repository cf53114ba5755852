pub mod Teams
pub mod Tables
pub mod Words
pub mod Children
