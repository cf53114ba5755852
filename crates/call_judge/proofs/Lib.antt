pub mod PartsLaws
pub mod Facts
